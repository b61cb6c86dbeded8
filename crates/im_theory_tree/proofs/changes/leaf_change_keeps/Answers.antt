use Rattle.im_theory_tree.proofs.LeafChange.{leaf_change}
use Rattle.im_theory_tree.proofs.changes.leaf_change_keeps.Goals as goal

pub returns : goal.returns
returns c = leaf_change
