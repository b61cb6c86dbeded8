use Rattle.std.proofs.Common.{◌≡◌, ℕ, true, List, refl, sym, ◌∙◌, ap, subst}
use Rattle.im_base_types.specs.Answers.{Scan, Entries, answer}
use Rattle.im_base_types.specs.Maps.{is_below}
use Rattle.im_base_types.specs.Pages.{Entry}
use Rattle.im_page_writer.proofs.Outcomes.{idle, sound_on}
use Rattle.im_theory_tree.specs.Levels.{walk}
use Rattle.im_tree_search.specs.Levels.{bodies_of}
use Rattle.im_tree_search.specs.RangesBeside.{ScanMeetsDone}
use Rattle.im_tree_search.proofs.Quiet.{quiet_start}
use Rattle.im_tree_search.proofs.Sighted.{at_hidden, at_seen}
use Rattle.im_theory_machine.specs.Rows.{asked}
use Rattle.im_engine_locks.specs.Found.{IsScanOf}
use Rattle.im_engine_access.specs.LockAnswers.{entries_found, name_behind}
use Rattle.im_engine_access.proofs.Beside.{empty_asks, empty_scan}
use Rattle.im_engine_access.proofs.Names.{scan_is}
use Rattle.im_engine_access.proofs.Calls.{decided_as, says_as}
use Rattle.im_engine_access.proofs.scans.scan.Goals as goal

pub returns-then-lacks_keys-clause-outcome : goal.returns-then-lacks_keys-clause-outcome
returns-then-lacks_keys-clause-outcome g c = idle g.D.Disk g.met.D.Disk.only_now c.args.writer.now c.args.disk.now c.requires.working c.requires.ready

pub returns-then-lacks_keys-clause-kept : goal.returns-then-lacks_keys-clause-kept
returns-then-lacks_keys-clause-kept g c pages m tree is =
    let lo = c.args.lo.now in
    let hi = c.args.hi.now in
    let less : is_below hi lo ≡ true = sym c.lacks_keys.ensures ∙ c.if-lacks_keys.true in
    record {
      decides = empty_asks c.args.locks.now c.args.transaction m lo hi c.args.limit less;
      says = ap Entries (c.new.ensures.items ∙ empty_scan m lo hi c.args.limit less);
    }

pub returns-in_err-list-clause-kept : goal.returns-in_err-list-clause-kept
returns-in_err-list-clause-kept g c pages m tree is = sound_on c.from_residual.result _ _ c.from_residual.ensures.1 (c.in_err-list.ensures.kept pages tree)

pub returns-in_default-clause-kept : goal.returns-in_default-clause-kept
returns-in_default-clause-kept g c pages m tree is =
    let lo = c.args.lo.now in
    let hi = c.args.hi.now in
    let meets = at_hidden c.in_ok-list.field-0 _ _ c.in_default.not-Seen (c.in_ok-list.ensures.kept pages tree) in
    ((sym c.lacks_keys.ensures ∙ c.if-lacks_keys.false, subst (λ (n : ℕ). ScanMeetsDone (bodies_of pages) c.args.beside lo hi n) c.bounded.ensures meets), refl)

pub returns-clause-kept : goal.returns-clause-kept
returns-clause-kept g c pages m tree is =
    let lo = c.args.lo.now in
    let hi = c.args.hi.now in
    let list = c.in-Seen.list.items in
    let behind = c.in-Seen.behind in
    let r = at_seen c.in_ok-list.field-0 _ _ _ c.in-Seen.is (c.in_ok-list.ensures.kept pages tree) in
    let far = at_seen c.in_ok-list.field-0 _ _ _ c.in-Seen.is c.in_ok-list.ensures.far in
    let scanned : IsScanOf m lo hi c.args.limit list (name_behind behind) = scan_is m (walk (bodies_of pages)) lo hi c.args.limit c.bounded.result list behind is c.bounded.ensures far r.range in
    let lent : IsScanOf m lo hi c.args.limit c.as_slice.result.now (name_behind behind) = subst (λ (es : List Entry). IsScanOf m lo hi c.args.limit es (name_behind behind)) (sym c.as_slice.ensures.value) scanned in
    record {
      decides = decided_as c.args.locks.now c.ask_range.new.locks c.args.transaction (asked (Scan lo hi c.args.limit) m) (asked (Scan lo hi c.args.limit) m) c.in_ok-verdict.verdict c.outcome_of.result (c.in_ok-verdict.ensures.decided m lo hi c.args.limit lent) refl c.outcome_of.ensures.verdict;
      says = says_as entries_found c.outcome_of.result c.in-Seen.list (answer (Scan lo hi c.args.limit) m) c.outcome_of.ensures.value (ap Entries scanned.entries);
    }

pub returns-then-lacks_keys-clause-quiet : goal.returns-then-lacks_keys-clause-quiet
returns-then-lacks_keys-clause-quiet g c set on = quiet_start c.args.writer.now c.args.disk.now

pub returns-in_err-list-clause-quiet : goal.returns-in_err-list-clause-quiet
returns-in_err-list-clause-quiet g c set on = c.in_err-list.ensures.quiet set c.requires.working on

pub returns-in_default-clause-quiet : goal.returns-in_default-clause-quiet
returns-in_default-clause-quiet g c set on = c.in_ok-list.ensures.quiet set c.requires.working on

pub returns-in_err-verdict-clause-quiet : goal.returns-in_err-verdict-clause-quiet
returns-in_err-verdict-clause-quiet g c set on = c.in_ok-list.ensures.quiet set c.requires.working on

pub returns-clause-quiet : goal.returns-clause-quiet
returns-clause-quiet g c set on = c.in_ok-list.ensures.quiet set c.requires.working on
