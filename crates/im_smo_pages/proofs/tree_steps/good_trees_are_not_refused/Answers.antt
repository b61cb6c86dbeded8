use Rattle.im_smo_pages.proofs.Beside.{beside, place_on_way}
use Rattle.im_smo_pages.proofs.AllocationSteps.{first_is_free}
use Rattle.im_smo_pages.proofs.Unrefused.{leaf_can_split, inner_can_split, leaf_can_halve, inner_can_halve}
use Rattle.im_smo_pages.proofs.tree_steps.good_trees_are_not_refused.Goals as goal

pub returns-clause-leaf : goal.returns-clause-leaf
returns-clause-leaf c = leaf_can_split

pub returns-clause-inner : goal.returns-clause-inner
returns-clause-inner c = inner_can_split

pub returns-clause-root_leaf : goal.returns-clause-root_leaf
returns-clause-root_leaf c = leaf_can_halve

pub returns-clause-root_inner : goal.returns-clause-root_inner
returns-clause-root_inner c = inner_can_halve

pub returns-clause-next : goal.returns-clause-next
returns-clause-next c pages spare key p good way = (beside pages spare p good (place_on_way pages key p way)).next_kind

pub returns-clause-prev : goal.returns-clause-prev
returns-clause-prev c pages spare key p good way = (beside pages spare p good (place_on_way pages key p way)).prev_kind

pub returns-clause-first_free : goal.returns-clause-first_free
returns-clause-first_free c = first_is_free
