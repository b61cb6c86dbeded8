use Rattle.im_theory_log.proofs.LogLaws.{finished_tree}
use Rattle.im_theory_log.proofs.logs.finished_tree_is_committed.Goals as goal

pub returns : goal.returns
returns g c = finished_tree g.T.PageTree.tree
