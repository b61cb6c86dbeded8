use Rattle.im_theory_tree.proofs.LeafSplit.{leaf_split}
use Rattle.im_theory_tree.proofs.splits.leaf_split_keeps.Goals as goal

pub returns : goal.returns
returns c = leaf_split
