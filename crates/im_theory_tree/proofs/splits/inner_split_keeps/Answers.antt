use Rattle.im_theory_tree.proofs.InnerSplit.{inner_split}
use Rattle.im_theory_tree.proofs.splits.inner_split_keeps.Goals as goal

pub returns : goal.returns
returns c = inner_split
