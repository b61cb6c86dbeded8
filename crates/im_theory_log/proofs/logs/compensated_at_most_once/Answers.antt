use Rattle.im_theory_log.proofs.LogLaws.{at_most_once}
use Rattle.im_theory_log.proofs.logs.compensated_at_most_once.Goals as goal

pub returns : goal.returns
returns g c = at_most_once g.T.PageTree.tree
