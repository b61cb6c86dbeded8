use Rattle.im_theory_log.proofs.LogLaws.{on_top}
use Rattle.im_theory_log.proofs.logs.open_change_is_on_top.Goals as goal

pub returns : goal.returns
returns g c = on_top g.T.PageTree.tree
