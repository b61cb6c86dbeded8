use Rattle.im_smo_pages.proofs.LeafSplitSteps.{leaf_step}
use Rattle.im_smo_pages.proofs.InnerSplitSteps.{inner_step}
use Rattle.im_smo_pages.proofs.RootSplitSteps.{root_leaf_step, root_inner_step}
use Rattle.im_smo_pages.proofs.tree_steps.split_pages_are_splits.Goals as goal

pub returns-clause-leaf : goal.returns-clause-leaf
returns-clause-leaf c dense = leaf_step {dense = dense}

pub returns-clause-inner : goal.returns-clause-inner
returns-clause-inner c = inner_step

pub returns-clause-root_leaf : goal.returns-clause-root_leaf
returns-clause-root_leaf c dense = root_leaf_step {dense = dense}

pub returns-clause-root_inner : goal.returns-clause-root_inner
returns-clause-root_inner c = root_inner_step
