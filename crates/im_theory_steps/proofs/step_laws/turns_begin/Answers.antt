use Rattle.im_theory_steps.proofs.Changing.{turns_begin as law}
use Rattle.im_theory_steps.proofs.step_laws.turns_begin.Goals as goal

pub returns : goal.returns
returns c = law
