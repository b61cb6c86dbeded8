use Rattle.im_theory_tree.proofs.LookupLemmas.{found_at, absent_at, first_at_key, first_above_key, first_at_gap, put_at, taken_at}
use Rattle.im_theory_tree.proofs.lookups.places_answer.Goals as goal

pub returns-clause-found : goal.returns-clause-found
returns-clause-found c = found_at

pub returns-clause-absent : goal.returns-clause-absent
returns-clause-absent c = absent_at

pub returns-clause-from : goal.returns-clause-from
returns-clause-from c = first_at_key

pub returns-clause-above : goal.returns-clause-above
returns-clause-above c = first_above_key

pub returns-clause-gap : goal.returns-clause-gap
returns-clause-gap c = first_at_gap

pub returns-clause-put : goal.returns-clause-put
returns-clause-put c = put_at

pub returns-clause-taken : goal.returns-clause-taken
returns-clause-taken c = taken_at
