use Rattle.im_restart_analysis.proofs.LeadingDown.{logs_are_taken}
use Rattle.im_restart_analysis.proofs.lawful_logs.lawful_logs_are_taken.Goals as goal

pub returns : goal.returns
returns g c = logs_are_taken g.T.PageTree.tree g.T.PageTree.laws
