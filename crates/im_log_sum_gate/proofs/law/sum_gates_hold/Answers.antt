use Rattle.im_log_sum_gate.proofs.Laws.{are_there, closing, one_sync, two_syncs}
use Rattle.im_log_sum_gate.proofs.Seals.{sealed_are_laid}
use Rattle.im_log_sum_gate.proofs.Walks.{walks}
use Rattle.im_log_sum_gate.proofs.law.sum_gates_hold.Goals as goal

pub returns-clause-walks : goal.returns-clause-walks
returns-clause-walks c = walks

pub returns-clause-one : goal.returns-clause-one
returns-clause-one c = one_sync

pub returns-clause-two : goal.returns-clause-two
returns-clause-two c = two_syncs

pub returns-clause-closing : goal.returns-clause-closing
returns-clause-closing c = closing

pub returns-clause-there : goal.returns-clause-there
returns-clause-there c = are_there

pub returns-clause-sealed : goal.returns-clause-sealed
returns-clause-sealed c = sealed_are_laid
