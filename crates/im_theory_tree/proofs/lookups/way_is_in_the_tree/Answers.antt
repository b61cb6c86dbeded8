use Rattle.im_theory_tree.proofs.LookupLemmas.{way_leaf, way_inner, way_known}
use Rattle.im_theory_tree.proofs.lookups.way_is_in_the_tree.Goals as goal

pub returns-clause-leaf : goal.returns-clause-leaf
returns-clause-leaf c = way_leaf

pub returns-clause-inner : goal.returns-clause-inner
returns-clause-inner c = way_inner

pub returns-clause-known : goal.returns-clause-known
returns-clause-known c = way_known
