use Rattle.im_theory_steps.proofs.Undone.{returning_more}
use Rattle.im_theory_steps.proofs.undone_laws.returning_has_more.Goals as goal

pub returns : goal.returns
returns c = returning_more
