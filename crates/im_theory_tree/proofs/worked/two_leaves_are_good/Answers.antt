use Rattle.im_theory_tree.proofs.WorkedTrees.{two_leaves_good}
use Rattle.im_theory_tree.proofs.worked.two_leaves_are_good.Goals as goal

pub returns : goal.returns
returns c = two_leaves_good
