use Rattle.im_theory_log.proofs.LogLaws.{tree_holds}
use Rattle.im_theory_log.proofs.logs.tree_holds_committed_and_nets.Goals as goal

pub returns : goal.returns
returns g c = tree_holds g.T.PageTree.tree
