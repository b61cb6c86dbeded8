use Rattle.im_theory_steps.proofs.Changing.{turns_drop as law}
use Rattle.im_theory_steps.proofs.step_laws.turns_drop.Goals as goal

pub returns : goal.returns
returns c = law
