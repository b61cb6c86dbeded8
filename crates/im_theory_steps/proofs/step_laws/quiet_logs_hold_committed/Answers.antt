use Rattle.im_theory_steps.proofs.Steps.{quiet_logs}
use Rattle.im_theory_steps.proofs.step_laws.quiet_logs_hold_committed.Goals as goal

pub returns : goal.returns
returns g c = quiet_logs g.T.PageTree.tree
