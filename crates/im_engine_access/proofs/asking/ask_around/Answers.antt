use Rattle.std.proofs.Common.{◌∙◌, ap}
use Rattle.im_base_types.specs.Answers.{Prev, answer, entry}
use Rattle.im_theory_machine.specs.Rows.{asked, name_of}
use Rattle.im_engine_locks.specs.Requests.{named, named_if, row}
use Rattle.im_engine_locks.specs.Found.{FindsBelow, name_below}
use Rattle.im_engine_access.specs.LockAnswers.{entry_found}
use Rattle.im_engine_access.proofs.Calls.{decided_as, says_as}
use Rattle.im_engine_access.proofs.asking.ask_around.Goals as goal

pub returns-clause-read : goal.returns-clause-read
returns-clause-read c m key last first =
    let finds : FindsBelow m key (named_if c.name_if_found.result) (named c.name_found.result) = record { found_is = c.name_if_found.ensures ∙ ap name_below last; next_is = c.name_found.ensures ∙ ap name_of first } in
    let asks = ap row c.as_slice.ensures ∙ c.prev_row-row.ensures m key finds in
    record {
      decides = decided_as c.args.locks.now c.try_all.new.self c.args.transaction _ (asked (Prev key) m) c.in_ok-verdict.verdict c.outcome_of.result c.in_ok-verdict.ensures.decided asks c.outcome_of.ensures.verdict;
      says = says_as entry_found c.outcome_of.result c.args.below (answer (Prev key) m) c.outcome_of.ensures.value (ap entry last);
    }
