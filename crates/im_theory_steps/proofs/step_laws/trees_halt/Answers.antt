use Rattle.im_theory_steps.proofs.Changing.{trees_halt as law}
use Rattle.im_theory_steps.proofs.step_laws.trees_halt.Goals as goal

pub returns : goal.returns
returns c = law
