use Rattle.im_theory_tree.proofs.TheoryLaws.{page_tree_laws}
use Rattle.im_theory_tree.proofs.theory.page_tree_laws.Goals as goal

pub returns : goal.returns
returns c = page_tree_laws
