use Rattle.std.proofs.Common.{◌≡◌, ◌≤◌, ℕ, true, sym, subst, refl, arith}
use Rattle.im_page_pool.specs.Pool.{page_at}
use Rattle.im_page_writer.proofs.Outcomes.{sound_on, then}
use Rattle.im_tree_search.specs.Backward.{along}
use Rattle.im_tree_search.specs.Levels.{bodies_of}
use Rattle.im_tree_search.proofs.GoingBack.{back_answer, back_ends, back_level, back_next, back_stops}
use Rattle.im_tree_search.proofs.Sighted.{at_hidden, at_seen, but_still}
use Rattle.im_tree_search.proofs.Pages.{got_says}
use Rattle.im_tree_search.proofs.Quiet.{back_still, prev_in_set, quiet_then}
use Rattle.im_tree_search.proofs.chain_back.last_along.Goals as goal

pub returns-in_err-left-clause-kept : goal.returns-in_err-left-clause-kept
returns-in_err-left-clause-kept g c pages tree comes = sound_on c.from_residual.result _ _ c.from_residual.ensures.1 (c.in_err-left.ensures.kept pages tree)

pub loop-number-init : goal.loop-number-init
loop-number-init g c = record {
  outcome = c.in_ok-left.ensures.outcome;
  kept = λ pages tree comes. record { comes = comes; count = omega (arith, c.in_ok-left.ensures.kept pages tree) };
  quiet = λ set back from. (c.in_ok-left.ensures.quiet (back.way.held 0 back.meta), from);
}

pub returns-then-left-eq0-clause-kept : goal.returns-then-left-eq0-clause-kept
returns-then-left-eq0-clause-kept g c pages tree comes =
    let l = c.loop-number in
    absurd (back_stops (bodies_of pages) tree.spare c.args.key.now l.left l.number tree.good (l.invariant.kept pages tree comes) (omega (arith, c.loop-number-test.true)) c.if-left-eq0.true)

pub returns-in_err-frame-clause-kept : goal.returns-in_err-frame-clause-kept
returns-in_err-frame-clause-kept g c pages tree comes =
    let l = c.loop-number in
    let level = back_level (bodies_of pages) tree.spare c.args.key.now l.number tree.good (l.invariant.kept pages tree comes).comes (omega (arith, c.loop-number-test.true)) in
    sound_on c.from_residual-in_err-frame.result _ _ c.from_residual-in_err-frame.ensures.1 (c.in_err-frame.ensures.kept pages (but_still g.D.Disk tree l.invariant.outcome) level)

pub returns-in_default-clause-outcome : goal.returns-in_default-clause-outcome
returns-in_default-clause-outcome g c = then g.D.Disk c.loop-number.invariant.outcome c.in_ok-frame.ensures.outcome

pub returns-in_default-clause-kept : goal.returns-in_default-clause-kept
returns-in_default-clause-kept g c pages tree comes =
    let l = c.loop-number in
    let so = l.invariant.kept pages tree comes in
    let some : 1 ≤ l.number = omega (arith, c.loop-number-test.true) in
    let level = back_level (bodies_of pages) tree.spare c.args.key.now l.number tree.good so.comes some in
    along l.number so.comes some (at_hidden c.in_ok-frame.field-0 _ _ c.in_default.not-Seen (c.in_ok-frame.ensures.kept pages (but_still g.D.Disk tree l.invariant.outcome) level))

pub returns-in_default-clause-last : goal.returns-in_default-clause-last
returns-in_default-clause-last g c = at_hidden c.in_ok-frame.field-0 _ _ c.in_default.not-Seen c.in_ok-frame.ensures.settled

pub returns-in-Some-clause-outcome : goal.returns-in-Some-clause-outcome
returns-in-Some-clause-outcome g c = then g.D.Disk c.loop-number.invariant.outcome c.in_ok-frame.ensures.outcome

pub returns-in-Some-clause-kept : goal.returns-in-Some-clause-kept
returns-in-Some-clause-kept g c pages tree comes =
    let l = c.loop-number in
    let pool = c.page_beside.new.writer.pool in
    let frame = c.in-Seen.frame in
    let so = l.invariant.kept pages tree comes in
    let some : 1 ≤ l.number = omega (arith, c.loop-number-test.true) in
    let level = back_level (bodies_of pages) tree.spare c.args.key.now l.number tree.good so.comes some in
    let shown = at_seen c.in_ok-frame.field-0 frame _ _ c.in-Seen.is (c.in_ok-frame.ensures.kept pages (but_still g.D.Disk tree l.invariant.outcome) level) in
    let says = got_says pages l.number pool frame shown (at_seen c.in_ok-frame.field-0 frame _ _ c.in-Seen.is c.in_ok-frame.ensures.frame) in
    back_answer (bodies_of pages) tree.spare c.args.key.now l.number c.page-leaf.result.now (page_at pool frame.number) c.in-Some.at tree.good so.comes some c.page-leaf.ensures.page says c.in-Some.ensures.some.1

pub loop-number-preserved : goal.loop-number-preserved
loop-number-preserved g c =
    let l = c.loop-number in
    let pool = c.page_beside.new.writer.pool in
    let frame = c.in-Seen.frame in
    let e = c.in_ok-frame.ensures in
    let number = at_seen c.in_ok-frame.field-0 frame _ _ c.in-Seen.is e.frame in
    let settled = at_seen c.in_ok-frame.field-0 frame _ _ c.in-Seen.is e.settled in
    let some : 1 ≤ l.number = omega (arith, c.loop-number-test.true) in
    record {
      outcome = then g.D.Disk l.invariant.outcome e.outcome;
      kept = λ pages tree comes.
          let so = l.invariant.kept pages tree comes in
          let level = back_level (bodies_of pages) tree.spare c.args.key.now l.number tree.good so.comes some in
          let shown = at_seen c.in_ok-frame.field-0 frame _ _ c.in-Seen.is (e.kept pages (but_still g.D.Disk tree l.invariant.outcome) level) in
          let says = got_says pages l.number pool frame shown number in
          let none = c.in_default-last_below.ensures.none refl in
          back_next (bodies_of pages) tree.spare c.args.key.now l.left _ l.number c.page-leaf.result.now (page_at pool frame.number) _ tree.good so some (omega (arith, c.if-left-eq0.false)) c.page-leaf.ensures.page says none c.prev-number.ensures;
      quiet = λ set back from.
          let was = l.invariant.quiet set back from in
          let in_set = was.1 some in
          let here = back_still c.args.key.now set back was.0 in
          let still = e.quiet l.invariant.outcome.ends.works (here.way.held l.number in_set) in
          let there = back_still c.args.key.now set here still in
          (quiet_then was.0 still, λ more. prev_in_set c.args.key.now set pool frame.number c.prev-number.result c.page-leaf.result.now there (subst (λ (n : ℕ). set n ≡ true) (sym number) in_set) settled.level c.page-leaf.ensures.page c.prev-number.ensures more);
    }

pub returns-clause-kept : goal.returns-clause-kept
returns-clause-kept g c pages tree comes =
    let l = c.loop-number in
    let end : l.number ≡ 0 = omega (arith, c.loop-number-test.false) in
    sym (back_ends (bodies_of pages) tree.spare c.args.key.now l.number tree.good (l.invariant.kept pages tree comes).comes end)

pub returns-in_err-left-clause-quiet : goal.returns-in_err-left-clause-quiet
returns-in_err-left-clause-quiet g c set back from = c.in_err-left.ensures.quiet (back.way.held 0 back.meta)

pub returns-then-left-eq0-clause-quiet : goal.returns-then-left-eq0-clause-quiet
returns-then-left-eq0-clause-quiet g c set back from = (c.loop-number.invariant.quiet set back from).0

pub returns-in_err-frame-clause-quiet : goal.returns-in_err-frame-clause-quiet
returns-in_err-frame-clause-quiet g c set back from =
    let l = c.loop-number in
    let was = l.invariant.quiet set back from in
    quiet_then was.0 (c.in_err-frame.ensures.quiet l.invariant.outcome.ends.works ((back_still c.args.key.now set back was.0).way.held l.number (was.1 (omega (arith, c.loop-number-test.true)))))

pub returns-in_default-clause-quiet : goal.returns-in_default-clause-quiet
returns-in_default-clause-quiet g c set back from =
    let l = c.loop-number in
    let was = l.invariant.quiet set back from in
    quiet_then was.0 (c.in_ok-frame.ensures.quiet l.invariant.outcome.ends.works ((back_still c.args.key.now set back was.0).way.held l.number (was.1 (omega (arith, c.loop-number-test.true)))))

pub returns-in-Some-clause-quiet : goal.returns-in-Some-clause-quiet
returns-in-Some-clause-quiet g c set back from =
    let l = c.loop-number in
    let was = l.invariant.quiet set back from in
    quiet_then was.0 (c.in_ok-frame.ensures.quiet l.invariant.outcome.ends.works ((back_still c.args.key.now set back was.0).way.held l.number (was.1 (omega (arith, c.loop-number-test.true)))))

pub returns-clause-quiet : goal.returns-clause-quiet
returns-clause-quiet g c set back from = (c.loop-number.invariant.quiet set back from).0
