use Rattle.std.proofs.Common.{Some, sym, ◌∙◌, ap}
use Rattle.im_base_types.specs.Answers.{Fetch, found}
use Rattle.im_theory_machine.specs.Locks.{PastAll}
use Rattle.im_theory_machine.specs.Rows.{asked}
use Rattle.im_engine_locks.specs.Requests.{row}
use Rattle.im_engine_access.proofs.Names.{finds_there}
use Rattle.im_engine_access.proofs.Calls.{decided_as, says_as}
use Rattle.im_engine_access.proofs.asking.ask_there.Goals as goal

pub returns-clause-read : goal.returns-clause-read
returns-clause-read c m there =
    let key = c.args.key.now in
    let rid = c.args.rid in
    let asks = ap row c.as_slice.ensures ∙ c.fetch_row-row.ensures m (finds_there m key rid PastAll there) in
    record {
      decides = decided_as c.args.locks.now c.try_all.new.self c.args.transaction _ (asked (Fetch key) m) c.in_ok-verdict.verdict c.outcome_of.result c.in_ok-verdict.ensures.decided asks c.outcome_of.ensures.verdict;
      says = says_as found c.outcome_of.result (Some rid) (found _) c.outcome_of.ensures.value (ap found (sym there));
    }
