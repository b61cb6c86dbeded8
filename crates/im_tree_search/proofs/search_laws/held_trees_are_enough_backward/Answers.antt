use Rattle.im_tree_search.proofs.HeldTrees.{tree_held_back}
use Rattle.im_tree_search.proofs.search_laws.held_trees_are_enough_backward.Goals as goal

pub returns : goal.returns
returns c pages key pool good all = tree_held_back pages key pool good all
