use Rattle.im_theory_tree.proofs.FreeList.{take_free, take_count, give_free}
use Rattle.im_theory_tree.proofs.allocation.allocation_keeps.Goals as goal

pub returns-clause-take_free : goal.returns-clause-take_free
returns-clause-take_free c = take_free

pub returns-clause-take_count : goal.returns-clause-take_count
returns-clause-take_count c = take_count

pub returns-clause-give_free : goal.returns-clause-give_free
returns-clause-give_free c = give_free
