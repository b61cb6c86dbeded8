use Rattle.im_theory_tree.proofs.BehindLemmas.{behind_begins, behind_is_leaf, behind_goes_on, behind_answers, behind_ends}
use Rattle.im_theory_tree.proofs.lookups.chain_leads_to_the_last.Goals as goal

pub returns-clause-begins : goal.returns-clause-begins
returns-clause-begins c = behind_begins

pub returns-clause-leaf : goal.returns-clause-leaf
returns-clause-leaf c = behind_is_leaf

pub returns-clause-goes_on : goal.returns-clause-goes_on
returns-clause-goes_on c = behind_goes_on

pub returns-clause-answers : goal.returns-clause-answers
returns-clause-answers c = behind_answers

pub returns-clause-ends : goal.returns-clause-ends
returns-clause-ends c = behind_ends
