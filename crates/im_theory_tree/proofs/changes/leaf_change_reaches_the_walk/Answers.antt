use Rattle.im_theory_tree.proofs.LeafWalk.{leaf_walk}
use Rattle.im_theory_tree.proofs.changes.leaf_change_reaches_the_walk.Goals as goal

pub returns : goal.returns
returns c = leaf_walk
