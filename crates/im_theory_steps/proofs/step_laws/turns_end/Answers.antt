use Rattle.im_theory_steps.proofs.Changing.{turns_end as law}
use Rattle.im_theory_steps.proofs.step_laws.turns_end.Goals as goal

pub returns : goal.returns
returns c = law
