use Rattle.im_theory_tree.proofs.LeafSplitWay.{key_leaf_split}
use Rattle.im_theory_tree.proofs.InnerSplitWay.{key_inner_split}
use Rattle.im_theory_tree.proofs.RootSplitWay.{key_root_leaf_split, key_root_inner_split}
use Rattle.im_theory_tree.proofs.key_splits.key_split_keeps.Goals as goal

pub returns-clause-leaf : goal.returns-clause-leaf
returns-clause-leaf c = key_leaf_split

pub returns-clause-inner : goal.returns-clause-inner
returns-clause-inner c = key_inner_split

pub returns-clause-root_leaf : goal.returns-clause-root_leaf
returns-clause-root_leaf c = key_root_leaf_split

pub returns-clause-root_inner : goal.returns-clause-root_inner
returns-clause-root_inner c = key_root_inner_split
