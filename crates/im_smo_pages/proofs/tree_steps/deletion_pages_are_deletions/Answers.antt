use Rattle.im_smo_pages.proofs.DropSteps.{entry_step, leftmost_step, root_step}
use Rattle.im_smo_pages.proofs.tree_steps.deletion_pages_are_deletions.Goals as goal

pub returns-clause-entry : goal.returns-clause-entry
returns-clause-entry c = entry_step

pub returns-clause-leftmost : goal.returns-clause-leftmost
returns-clause-leftmost c = leftmost_step

pub returns-clause-root : goal.returns-clause-root
returns-clause-root c = root_step
