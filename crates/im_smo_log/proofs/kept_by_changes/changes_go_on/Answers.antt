use Rattle.im_smo_log.proofs.DoneNumbers.{first_are_done}
use Rattle.im_smo_log.proofs.Others.{others_keep, ways_keep}
use Rattle.im_smo_log.proofs.Going.{page_goes_on, other_page_settled, pages_agree, closes_well}
use Rattle.im_smo_log.proofs.Coming.{changes_begin, pages_may_come, closes_may_come}
use Rattle.im_smo_log.proofs.kept_by_changes.changes_go_on.Goals as goal

pub returns-clause-others : goal.returns-clause-others
returns-clause-others c = λ b t undo_next images done prev r older way law other plain apart. others_keep b t undo_next images done prev r older way law other plain apart

pub returns-clause-ways : goal.returns-clause-ways
returns-clause-ways c = λ b t undo_next images done prev r older way law other plain apart key p. ways_keep b t undo_next images done prev r older way law other plain apart key p

pub returns-clause-pages : goal.returns-clause-pages
returns-clause-pages c = λ b t undo_next images done prev r older old new way law more mine page is same first said. page_goes_on b t undo_next images done prev r older old new way law more mine page is same first said

pub returns-clause-settled : goal.returns-clause-settled
returns-clause-settled c = other_page_settled

pub returns-clause-agrees : goal.returns-clause-agrees
returns-clause-agrees c = pages_agree

pub returns-clause-done : goal.returns-clause-done
returns-clause-done c = first_are_done

pub returns-clause-closes : goal.returns-clause-closes
returns-clause-closes c = closes_well

pub returns-clause-begins : goal.returns-clause-begins
returns-clause-begins c = changes_begin

pub returns-clause-next : goal.returns-clause-next
returns-clause-next c = pages_may_come

pub returns-clause-ends : goal.returns-clause-ends
returns-clause-ends c = closes_may_come
