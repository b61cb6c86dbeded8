use Rattle.im_theory_tree.proofs.EmptyRoot.{empty_root}
use Rattle.im_theory_tree.proofs.deletions.empty_root_keeps.Goals as goal

pub returns : goal.returns
returns c = empty_root
