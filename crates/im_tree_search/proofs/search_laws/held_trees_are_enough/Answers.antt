use Rattle.im_tree_search.proofs.HeldTrees.{tree_held}
use Rattle.im_tree_search.proofs.search_laws.held_trees_are_enough.Goals as goal

pub returns : goal.returns
returns c pages key pool good all = tree_held pages key pool good all
