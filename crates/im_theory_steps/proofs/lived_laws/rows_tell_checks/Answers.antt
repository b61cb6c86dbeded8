use Rattle.im_theory_steps.proofs.Lived.{rows_tell}
use Rattle.im_theory_steps.proofs.lived_laws.rows_tell_checks.Goals as goal

pub returns : goal.returns
returns c = rows_tell
