use Rattle.im_theory_tree.proofs.RootSplit.{initial_good}
use Rattle.im_theory_tree.proofs.allocation.initial_pages_are_good.Goals as goal

pub returns : goal.returns
returns c = initial_good
