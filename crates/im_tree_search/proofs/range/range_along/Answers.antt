use Rattle.std.proofs.Common.{◌≡◌, ◌≤◌, ◌<◌, ℕ, true, List, length, suc, sym, subst, arith, refl}
use Rattle.im_base_types.specs.Pages.{Entry}
use Rattle.im_page_pool.specs.Pool.{page_at}
use Rattle.im_page_writer.proofs.Outcomes.{out_of_memory, refused, sound_on, then, read_more, refuses}
use Rattle.im_tree_search.specs.Levels.{bodies_of}
use Rattle.im_tree_search.specs.Ranges.{IsAlong}
use Rattle.im_tree_search.specs.RangesBeside.{along as made_along}
use Rattle.im_tree_search.proofs.Sighted.{at_hidden, at_seen, but_still}
use Rattle.im_tree_search.proofs.Pages.{got_says}
use Rattle.im_tree_search.proofs.Quiet.{next_in_set, on_still, quiet_then}
use Rattle.im_tree_search.proofs.Walks.{memory_not}
use Rattle.im_tree_search.proofs.Ranges.{along_ends, along_level, along_on, along_stops, along_within, part_none, part_some}
use Rattle.im_page_writer.specs.Outcome.{mild}
use Rattle.im_base_types.specs.declared.fault.Fault.TheVariants.{NotAStore}
use Rattle.im_tree_search.proofs.range.range_along.Goals as goal

pub returns-in_err-left-clause-outcome : goal.returns-in_err-left-clause-outcome
returns-in_err-left-clause-outcome g c = refused g.D.Disk c.from_residual.result c.from_residual.ensures.1 (read_more g.D.Disk mild refl c.in_err-left.ensures.outcome)

pub returns-in_err-left-clause-kept : goal.returns-in_err-left-clause-kept
returns-in_err-left-clause-kept g c pages n tree along some = sound_on c.from_residual.result _ _ c.from_residual.ensures.1 (c.in_err-left.ensures.kept pages tree)

pub loop-number-init : goal.loop-number-init
loop-number-init g c =
    let e = c.in_ok-left.ensures in
    record {
      outcome = e.outcome;
      room = c.requires.room;
      kept = λ pages n tree along some. record { n = n; along = along; some = some; count = omega (arith, e.kept pages tree); gone = omega (arith, e.gets) };
      quiet = λ set on from. (e.quiet (on.way.held 0 on.meta), from);
    }

pub returns-then-left-eq0-clause-outcome : goal.returns-then-left-eq0-clause-outcome
returns-then-left-eq0-clause-outcome g c = refuses g.D.Disk NotAStore refl refl c.loop-number.invariant.outcome

pub returns-then-left-eq0-clause-kept : goal.returns-then-left-eq0-clause-kept
returns-then-left-eq0-clause-kept g c pages n tree along some =
    let l = c.loop-number in
    let so = l.invariant.kept pages n tree along some in
    absurd (along_within (bodies_of pages) tree.spare c.args.lo.now c.args.hi.now l.list.items l.left so.n l.number tree.good so.along (omega (arith, c.loop-number-test.true)) so.count c.if-left-eq0.true)

pub returns-in_err-frame-clause-outcome : goal.returns-in_err-frame-clause-outcome
returns-in_err-frame-clause-outcome g c = refused g.D.Disk c.from_residual-in_err-frame.result c.from_residual-in_err-frame.ensures.1 (then g.D.Disk c.loop-number.invariant.outcome (read_more g.D.Disk mild refl c.in_err-frame.ensures.outcome))

pub returns-in_err-frame-clause-kept : goal.returns-in_err-frame-clause-kept
returns-in_err-frame-clause-kept g c pages n tree along some =
    let l = c.loop-number in
    let so = l.invariant.kept pages n tree along some in
    let level = along_level (bodies_of pages) tree.spare c.args.lo.now c.args.hi.now l.list.items so.n l.number tree.good so.along (omega (arith, c.loop-number-test.true)) in
    sound_on c.from_residual-in_err-frame.result _ _ c.from_residual-in_err-frame.ensures.1 (c.in_err-frame.ensures.kept pages (but_still g.D.Disk tree l.invariant.outcome) level)

pub returns-in_default-clause-outcome : goal.returns-in_default-clause-outcome
returns-in_default-clause-outcome g c = then g.D.Disk c.loop-number.invariant.outcome (read_more g.D.Disk mild refl c.in_ok-frame.ensures.outcome)

pub returns-in_default-clause-kept : goal.returns-in_default-clause-kept
returns-in_default-clause-kept g c pages n tree along some =
    let l = c.loop-number in
    let so = l.invariant.kept pages n tree along some in
    let here : 1 ≤ l.number = omega (arith, c.loop-number-test.true) in
    let level = along_level (bodies_of pages) tree.spare c.args.lo.now c.args.hi.now l.list.items so.n l.number tree.good so.along here in
    made_along l.number
    (record { n = so.n; passes = so.along.passes; page = so.along.page; some = here; fewer = subst (λ (es : List Entry). length es < c.args.limit) so.along.entries l.invariant.room })
    (at_hidden c.in_ok-frame.field-0 _ _ c.in_default.not-Seen (c.in_ok-frame.ensures.kept pages (but_still g.D.Disk tree l.invariant.outcome) level))

pub returns-in_default-clause-far : goal.returns-in_default-clause-far
returns-in_default-clause-far g c = at_hidden c.in_ok-frame.field-0 _ _ c.in_default.not-Seen c.in_ok-frame.ensures.settled

pub returns-in_default-clause-most : goal.returns-in_default-clause-most
returns-in_default-clause-most g c = omega (arith, c.loop-number.invariant.room)

pub returns-in_err-behind-clause-outcome : goal.returns-in_err-behind-clause-outcome
returns-in_err-behind-clause-outcome g c =
    refused g.D.Disk c.from_residual-in_err-behind.result c.from_residual-in_err-behind.ensures.1 (out_of_memory g.D.Disk c.in_err-behind.ensures.memory (then g.D.Disk c.loop-number.invariant.outcome c.in_ok-frame.ensures.outcome))

pub returns-in_err-behind-clause-kept : goal.returns-in_err-behind-clause-kept
returns-in_err-behind-clause-kept g c pages n tree along some = sound_on c.from_residual-in_err-behind.result _ _ c.from_residual-in_err-behind.ensures.1 (memory_not c.in_err-behind.field-0.0 c.in_err-behind.ensures.memory)

pub returns-in-Some-clause-outcome : goal.returns-in-Some-clause-outcome
returns-in-Some-clause-outcome g c = then g.D.Disk c.loop-number.invariant.outcome (read_more g.D.Disk mild refl c.in_ok-frame.ensures.outcome)

pub returns-in-Some-clause-kept : goal.returns-in-Some-clause-kept
returns-in-Some-clause-kept g c pages n tree along some =
    let l = c.loop-number in
    let pool = c.page_beside.new.writer.pool in
    let frame = c.in-Seen.frame in
    let lo = c.args.lo.now in
    let hi = c.args.hi.now in
    let list = c.add_part.new.list.items in
    let lent = c.page-leaf.result.now in
    let here : 1 ≤ l.number = omega (arith, c.loop-number-test.true) in
    let so = l.invariant.kept pages n tree along some in
    let level = along_level (bodies_of pages) tree.spare lo hi l.list.items so.n l.number tree.good so.along here in
    let shown = at_seen c.in_ok-frame.field-0 frame _ _ c.in-Seen.is (c.in_ok-frame.ensures.kept pages (but_still g.D.Disk tree l.invariant.outcome) level) in
    let says = got_says pages l.number pool frame shown (at_seen c.in_ok-frame.field-0 frame _ _ c.in-Seen.is c.in_ok-frame.ensures.frame) in
    let part = part_some lo hi c.args.limit lent.body.entries l.list.items list c.in_ok-behind.field-0 c.in-Some.behind c.in-Some.is c.in_ok-behind.ensures.part in
    record {
      range = along_stops (bodies_of pages) tree.spare lo hi c.args.limit l.list.items list so.n l.number tree.good c.requires.order so.along here lent (page_at pool frame.number) c.page-leaf.ensures.page says c.in-Some.behind part;
      gets = record { m = so.n; passes = so.along.passes; some = so.some; count = omega (arith, so.gone, at_seen c.in_ok-frame.field-0 frame _ _ c.in-Seen.is c.in_ok-frame.ensures.gets) };
    }

pub loop-number-preserved : goal.loop-number-preserved
loop-number-preserved g c =
    let l = c.loop-number in
    let pool = c.page_beside.new.writer.pool in
    let frame = c.in-Seen.frame in
    let e = c.in_ok-frame.ensures in
    let lo = c.args.lo.now in
    let hi = c.args.hi.now in
    let list = c.add_part.new.list.items in
    let lent = c.page-leaf.result.now in
    let here : 1 ≤ l.number = omega (arith, c.loop-number-test.true) in
    let part = part_none lo hi c.args.limit lent.body.entries l.list.items list c.in_ok-behind.field-0 c.in_default-2.not-Some c.in_ok-behind.ensures.part in
    record {
      outcome = then g.D.Disk l.invariant.outcome e.outcome;
      room = part.1;
      kept = λ pages n tree along some.
          let so = l.invariant.kept pages n tree along some in
          let level = along_level (bodies_of pages) tree.spare lo hi l.list.items so.n l.number tree.good so.along here in
          let shown = at_seen c.in_ok-frame.field-0 frame _ _ c.in-Seen.is (e.kept pages (but_still g.D.Disk tree l.invariant.outcome) level) in
          let says = got_says pages l.number pool frame shown (at_seen c.in_ok-frame.field-0 frame _ _ c.in-Seen.is e.frame) in
          let past = along_on (bodies_of pages) tree.spare lo hi c.args.limit l.list.items list so.n l.number tree.good so.along here lent (page_at pool frame.number) c.page-leaf.ensures.page says part in
          record {
            n = suc so.n;
            along = subst (λ (q : ℕ). IsAlong (bodies_of pages) lo hi list (suc so.n) q) (sym c.next-number.ensures) past;
            some = omega arith;
            count = omega (arith, so.count, c.if-left-eq0.false);
            gone = omega (arith, so.gone, at_seen c.in_ok-frame.field-0 frame _ _ c.in-Seen.is e.gets);
          };
      quiet = λ set on from.
          let was = l.invariant.quiet set on from in
          let in_set = was.1 here in
          let still = e.quiet l.invariant.outcome.ends.works ((on_still lo set on was.0).way.held l.number in_set) in
          let both = quiet_then was.0 still in
          let number = at_seen c.in_ok-frame.field-0 frame _ _ c.in-Seen.is e.frame in
          let settled = at_seen c.in_ok-frame.field-0 frame _ _ c.in-Seen.is e.settled in
          (both, λ more. next_in_set lo set pool frame.number c.next-number.result lent (on_still lo set on both) (subst (λ (n : ℕ). set n ≡ true) (sym number) in_set) settled.level c.page-leaf.ensures.page c.next-number.ensures more);
    }

pub returns-clause-outcome : goal.returns-clause-outcome
returns-clause-outcome g c = read_more g.D.Disk mild refl c.loop-number.invariant.outcome

pub returns-clause-kept : goal.returns-clause-kept
returns-clause-kept g c pages n tree along some =
    let l = c.loop-number in
    let so = l.invariant.kept pages n tree along some in
    record {
      range = along_ends (bodies_of pages) tree.spare c.args.lo.now c.args.hi.now c.args.limit l.list.items so.n l.number tree.good c.requires.order so.along (omega (arith, c.loop-number-test.false)) l.invariant.room;
      gets = record { m = so.n; passes = so.along.passes; some = so.some; count = omega (arith, so.gone) };
    }

pub returns-in_err-left-clause-quiet : goal.returns-in_err-left-clause-quiet
returns-in_err-left-clause-quiet g c set on from = c.in_err-left.ensures.quiet (on.way.held 0 on.meta)

pub returns-then-left-eq0-clause-quiet : goal.returns-then-left-eq0-clause-quiet
returns-then-left-eq0-clause-quiet g c set on from = (c.loop-number.invariant.quiet set on from).0

pub returns-in_err-frame-clause-quiet : goal.returns-in_err-frame-clause-quiet
returns-in_err-frame-clause-quiet g c set on from =
    let l = c.loop-number in
    let was = l.invariant.quiet set on from in
    quiet_then was.0 (c.in_err-frame.ensures.quiet l.invariant.outcome.ends.works ((on_still c.args.lo.now set on was.0).way.held l.number (was.1 (omega (arith, c.loop-number-test.true)))))

pub returns-in_default-clause-quiet : goal.returns-in_default-clause-quiet
returns-in_default-clause-quiet g c set on from =
    let l = c.loop-number in
    let was = l.invariant.quiet set on from in
    quiet_then was.0 (c.in_ok-frame.ensures.quiet l.invariant.outcome.ends.works ((on_still c.args.lo.now set on was.0).way.held l.number (was.1 (omega (arith, c.loop-number-test.true)))))

pub returns-in_err-behind-clause-quiet : goal.returns-in_err-behind-clause-quiet
returns-in_err-behind-clause-quiet g c set on from =
    let l = c.loop-number in
    let was = l.invariant.quiet set on from in
    quiet_then was.0 (c.in_ok-frame.ensures.quiet l.invariant.outcome.ends.works ((on_still c.args.lo.now set on was.0).way.held l.number (was.1 (omega (arith, c.loop-number-test.true)))))

pub returns-in-Some-clause-quiet : goal.returns-in-Some-clause-quiet
returns-in-Some-clause-quiet g c set on from =
    let l = c.loop-number in
    let was = l.invariant.quiet set on from in
    quiet_then was.0 (c.in_ok-frame.ensures.quiet l.invariant.outcome.ends.works ((on_still c.args.lo.now set on was.0).way.held l.number (was.1 (omega (arith, c.loop-number-test.true)))))

pub returns-clause-quiet : goal.returns-clause-quiet
returns-clause-quiet g c set on from = (c.loop-number.invariant.quiet set on from).0
