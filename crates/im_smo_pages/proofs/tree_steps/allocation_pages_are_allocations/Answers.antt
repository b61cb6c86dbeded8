use Rattle.im_smo_pages.proofs.AllocationSteps.{take_free_step, take_count_step, give_free_step}
use Rattle.im_smo_pages.proofs.tree_steps.allocation_pages_are_allocations.Goals as goal

pub returns-clause-free : goal.returns-clause-free
returns-clause-free c = take_free_step

pub returns-clause-count : goal.returns-clause-count
returns-clause-count c = take_count_step

pub returns-clause-given : goal.returns-clause-given
returns-clause-given c = give_free_step
