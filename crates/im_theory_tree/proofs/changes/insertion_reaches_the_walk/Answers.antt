use Rattle.im_theory_tree.proofs.Order.{walk_put}
use Rattle.im_theory_tree.proofs.changes.insertion_reaches_the_walk.Goals as goal

pub returns : goal.returns
returns c = walk_put
