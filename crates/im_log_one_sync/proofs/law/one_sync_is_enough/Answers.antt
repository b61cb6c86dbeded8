use Rattle.im_log_one_sync.proofs.Going.{gates_go_on}
use Rattle.im_log_one_sync.proofs.Laws.{one_or_none, front_of_all, are_there, zeros_are_clear, can_be_kept, no_reader, none_is_zero}
use Rattle.im_log_one_sync.proofs.TwoSyncs.{two_syncs}
use Rattle.im_log_one_sync.proofs.law.one_sync_is_enough.Goals as goal

pub returns-clause-stops : goal.returns-clause-stops
returns-clause-stops c = one_or_none

pub returns-clause-fronts : goal.returns-clause-fronts
returns-clause-fronts c = front_of_all

pub returns-clause-there : goal.returns-clause-there
returns-clause-there c = are_there

pub returns-clause-clear : goal.returns-clause-clear
returns-clause-clear c = zeros_are_clear

pub returns-clause-none : goal.returns-clause-none
returns-clause-none c = no_reader

pub returns-clause-zeros : goal.returns-clause-zeros
returns-clause-zeros c = none_is_zero

pub returns-clause-two : goal.returns-clause-two
returns-clause-two c = two_syncs

pub returns-clause-kept : goal.returns-clause-kept
returns-clause-kept c = can_be_kept

pub returns-clause-goes : goal.returns-clause-goes
returns-clause-goes c = gates_go_on
