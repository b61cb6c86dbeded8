use Rattle.im_theory_tree.proofs.PlanLemmas.{applied_elsewhere, first_distinct, applied_next, restored_applied, restored_last}
use Rattle.im_theory_tree.proofs.plans.plans_are_applied_and_taken_back.Goals as goal

pub returns-clause-elsewhere : goal.returns-clause-elsewhere
returns-clause-elsewhere c = applied_elsewhere

pub returns-clause-distinct : goal.returns-clause-distinct
returns-clause-distinct c = first_distinct

pub returns-clause-next : goal.returns-clause-next
returns-clause-next c = applied_next

pub returns-clause-back : goal.returns-clause-back
returns-clause-back c = restored_applied

pub returns-clause-last_back : goal.returns-clause-last_back
returns-clause-last_back c = restored_last
