use Rattle.im_theory_tree.proofs.RootSplit.{leaf_root_split}
use Rattle.im_theory_tree.proofs.splits.leaf_root_split_keeps.Goals as goal

pub returns : goal.returns
returns c = leaf_root_split
