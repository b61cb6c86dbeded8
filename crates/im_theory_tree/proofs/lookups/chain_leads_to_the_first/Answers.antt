use Rattle.im_theory_tree.proofs.LookupLemmas.{ahead_begins, ahead_is_leaf, ahead_goes_on, ahead_answers, ahead_ends}
use Rattle.im_theory_tree.proofs.lookups.chain_leads_to_the_first.Goals as goal

pub returns-clause-begins : goal.returns-clause-begins
returns-clause-begins c = ahead_begins

pub returns-clause-leaf : goal.returns-clause-leaf
returns-clause-leaf c = ahead_is_leaf

pub returns-clause-goes_on : goal.returns-clause-goes_on
returns-clause-goes_on c = ahead_goes_on

pub returns-clause-answers : goal.returns-clause-answers
returns-clause-answers c = ahead_answers

pub returns-clause-ends : goal.returns-clause-ends
returns-clause-ends c = ahead_ends
