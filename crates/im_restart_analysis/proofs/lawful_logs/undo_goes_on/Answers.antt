use Rattle.im_restart_analysis.proofs.Undoing.{undo_goes_on}
use Rattle.im_restart_analysis.proofs.lawful_logs.undo_goes_on.Goals as goal

pub returns : goal.returns
returns g c = undo_goes_on g.T.PageTree.tree g.T.PageTree.laws
