use Rattle.im_theory_steps.proofs.Undone.{rolling_has_more}
use Rattle.im_theory_steps.proofs.undone_laws.rolling_back_has_more.Goals as goal

pub returns : goal.returns
returns c = rolling_has_more
