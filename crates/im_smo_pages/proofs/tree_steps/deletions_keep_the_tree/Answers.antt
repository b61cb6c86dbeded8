use Rattle.im_smo_pages.proofs.KeepingTrees.{entry_keeps, leftmost_keeps, root_keeps, given_keeps}
use Rattle.im_smo_pages.proofs.tree_steps.deletions_keep_the_tree.Goals as goal

pub returns-clause-entry : goal.returns-clause-entry
returns-clause-entry c = entry_keeps

pub returns-clause-leftmost : goal.returns-clause-leftmost
returns-clause-leftmost c = leftmost_keeps

pub returns-clause-root : goal.returns-clause-root
returns-clause-root c = root_keeps

pub returns-clause-given : goal.returns-clause-given
returns-clause-given c = given_keeps
