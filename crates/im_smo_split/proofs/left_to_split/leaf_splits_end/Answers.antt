use Rattle.im_smo_split.proofs.PendingChains.{leaf_ends, root_leaf_ends}
use Rattle.im_smo_split.proofs.left_to_split.leaf_splits_end.Goals as goal

pub returns-clause-leaf : goal.returns-clause-leaf
returns-clause-leaf c dense = leaf_ends {dense = dense}

pub returns-clause-root : goal.returns-clause-root
returns-clause-root c dense = root_leaf_ends {dense = dense}
