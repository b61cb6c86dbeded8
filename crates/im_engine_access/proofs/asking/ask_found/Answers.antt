use Rattle.std.proofs.Common.{◌∙◌, ap}
use Rattle.im_base_types.specs.Answers.{answer}
use Rattle.im_theory_machine.specs.Rows.{asked}
use Rattle.im_engine_locks.specs.Requests.{named, row}
use Rattle.im_engine_access.specs.LockAnswers.{as_found, entry_found, seek_at}
use Rattle.im_engine_access.proofs.Names.{seek_asks, seek_says}
use Rattle.im_engine_access.proofs.Calls.{decided_as, says_as}
use Rattle.im_engine_access.proofs.asking.ask_found.Goals as goal

pub returns-clause-read : goal.returns-clause-read
returns-clause-read c m key inclusive at =
    let asks = ap row c.as_slice.ensures ∙ seek_asks m key inclusive _ (named c.name_found.result) (as_found c.args.found) (λ k. c.seek_row-row.ensures.seek m k) (λ k. c.seek_row-row.ensures.next m k) c.name_found.ensures at in
    record {
      decides = decided_as c.args.locks.now c.try_all.new.self c.args.transaction _ (asked (seek_at inclusive key) m) c.in_ok-verdict.verdict c.outcome_of.result c.in_ok-verdict.ensures.decided asks c.outcome_of.ensures.verdict;
      says = says_as entry_found c.outcome_of.result c.args.found (answer (seek_at inclusive key) m) c.outcome_of.ensures.value (seek_says m key inclusive (as_found c.args.found) at);
    }
