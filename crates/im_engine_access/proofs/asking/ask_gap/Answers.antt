use Rattle.std.proofs.Common.{None, sym, ◌∙◌, ap}
use Rattle.im_base_types.specs.Answers.{Fetch, found}
use Rattle.im_theory_machine.specs.Rows.{asked}
use Rattle.im_engine_locks.specs.Requests.{named, row}
use Rattle.im_engine_access.proofs.Names.{finds_gap}
use Rattle.im_engine_access.proofs.Calls.{decided_as, says_as}
use Rattle.im_engine_access.proofs.asking.ask_gap.Goals as goal

pub returns-clause-read : goal.returns-clause-read
returns-clause-read c m none name =
    let key = c.args.key.now in
    let asks = ap row c.as_slice.ensures ∙ c.fetch_row-row.ensures m (finds_gap m key (named c.name_in.result) none (c.name_in.ensures ∙ name)) in
    record {
      decides = decided_as c.args.locks.now c.try_all.new.self c.args.transaction _ (asked (Fetch key) m) c.in_ok-verdict.verdict c.outcome_of.result c.in_ok-verdict.ensures.decided asks c.outcome_of.ensures.verdict;
      says = says_as found c.outcome_of.result None (found _) c.outcome_of.ensures.value (ap found (sym none));
    }
