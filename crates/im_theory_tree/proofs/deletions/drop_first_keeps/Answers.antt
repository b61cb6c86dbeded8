use Rattle.im_theory_tree.proofs.DropFirst.{drop_first}
use Rattle.im_theory_tree.proofs.deletions.drop_first_keeps.Goals as goal

pub returns : goal.returns
returns c = drop_first
