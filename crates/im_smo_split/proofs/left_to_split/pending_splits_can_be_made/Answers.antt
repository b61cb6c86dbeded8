use Rattle.im_smo_split.proofs.PendingChains.{leaf_can, inner_can, root_leaf_can, root_inner_can}
use Rattle.im_smo_split.proofs.left_to_split.pending_splits_can_be_made.Goals as goal

pub returns-clause-leaf : goal.returns-clause-leaf
returns-clause-leaf c dense = leaf_can {dense = dense}

pub returns-clause-inner : goal.returns-clause-inner
returns-clause-inner c dense = inner_can {dense = dense}

pub returns-clause-root_leaf : goal.returns-clause-root_leaf
returns-clause-root_leaf c dense = root_leaf_can {dense = dense}

pub returns-clause-root_inner : goal.returns-clause-root_inner
returns-clause-root_inner c dense = root_inner_can {dense = dense}
