use Rattle.im_theory_tree.proofs.InnerSplit.{root_split}
use Rattle.im_theory_tree.proofs.splits.root_split_keeps.Goals as goal

pub returns : goal.returns
returns c = root_split
