use Rattle.im_theory_tree.proofs.DropChild.{drop_child}
use Rattle.im_theory_tree.proofs.deletions.drop_child_keeps.Goals as goal

pub returns : goal.returns
returns c = drop_child
