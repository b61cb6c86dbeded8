use Rattle.im_theory_tree.proofs.StepLemmas.{split_down, split_root_leaf}
use Rattle.im_theory_tree.proofs.steps.splits_make_room.Goals as goal

pub returns-clause-leaf : goal.returns-clause-leaf
returns-clause-leaf c = split_down

pub returns-clause-root : goal.returns-clause-root
returns-clause-root c = split_root_leaf
