use Rattle.im_theory_steps.proofs.Changing.{turns_empty as law}
use Rattle.im_theory_steps.proofs.step_laws.turns_empty.Goals as goal

pub returns : goal.returns
returns c = law
