use Rattle.std.proofs.Common.{◌∙◌, ap}
use Rattle.im_theory_machine.specs.Locks.{PastAll}
use Rattle.im_engine_locks.specs.Requests.{row}
use Rattle.im_engine_access.proofs.Comings.{there_decided}
use Rattle.im_engine_access.proofs.Names.{finds_there}
use Rattle.im_engine_access.proofs.inserting_beside.ask_duplicate.Goals as goal

pub returns-clause-decided : goal.returns-clause-decided
returns-clause-decided c stepped m rid i there =
    let key = c.args.key.now in
    let asks = ap row c.as_slice.ensures ∙ c.insert_row-row.ensures m rid (finds_there m key i PastAll there) in
    there_decided stepped c.args.locks.now c.try_all.new.self c.args.transaction key rid m _ c.in_ok-verdict.verdict c.outcome_of.result c.in_ok-verdict.ensures.decided asks c.outcome_of.ensures.verdict c.outcome_of.ensures.value
