use Rattle.im_smo_pages.proofs.KeepingTrees.{first_keeps, next_keeps}
use Rattle.im_smo_pages.proofs.tree_steps.allocations_keep_the_tree.Goals as goal

pub returns-clause-first : goal.returns-clause-first
returns-clause-first c = first_keeps

pub returns-clause-next : goal.returns-clause-next
returns-clause-next c = next_keeps
