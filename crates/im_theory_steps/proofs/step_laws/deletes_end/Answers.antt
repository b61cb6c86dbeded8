use Rattle.im_theory_steps.proofs.Changing.{deletes_end as law}
use Rattle.im_theory_steps.proofs.step_laws.deletes_end.Goals as goal

pub returns : goal.returns
returns c = law
