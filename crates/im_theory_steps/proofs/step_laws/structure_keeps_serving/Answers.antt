use Rattle.im_theory_steps.proofs.Keeping.{structure_keeps}
use Rattle.im_theory_steps.proofs.step_laws.structure_keeps_serving.Goals as goal

pub returns : goal.returns
returns c = structure_keeps
