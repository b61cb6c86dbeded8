use Rattle.std.proofs.Common.{◌≡◌, false, ◌+◌, [], ℕ, List, sym, ap, subst, arith, rules, refl}
use Rattle.std.specs.Prelude.{None, Some}
use Rattle.im_base_types.specs.Maps.{is_below}
use Rattle.im_base_types.specs.Pages.{Entry, Page}
use Rattle.im_page_pool.specs.Pool.{page_at}
use Rattle.im_page_writer.proofs.Outcomes.{out_of_memory, refused, sound_on, then, read_more}
use Rattle.im_theory_tree.specs.Levels.{Pages, height, walk}
use Rattle.im_theory_tree.proofs.LookupLemmas.{way_known}
use Rattle.im_tree_search.specs.Levels.{bodies_of}
use Rattle.im_tree_search.specs.Ranges.{IsAlong, IsPart, IsRange, PassesOn, GetsOf}
use Rattle.im_tree_search.specs.RangesBeside.{on_way}
use Rattle.im_tree_search.proofs.Sighted.{at_hidden, at_seen, but_still}
use Rattle.im_tree_search.proofs.Quiet.{next_in_set, on_still, quiet_then}
use Rattle.im_tree_search.proofs.Walks.{memory_not}
use Rattle.im_tree_search.proofs.Ranges.{along_begins, along_on, along_stops, empty_range, part_none, part_some, passes_none, range_of_none}
use Rattle.im_page_writer.specs.Outcome.{mild}
use Rattle.im_tree_search.proofs.range.entries_between.Goals as goal

pub returns-in_err-frame-clause-outcome : goal.returns-in_err-frame-clause-outcome
returns-in_err-frame-clause-outcome g c = refused g.D.Disk c.from_residual.result c.from_residual.ensures.1 (read_more g.D.Disk mild refl c.in_err-frame.ensures.outcome)

pub returns-in_err-frame-clause-kept : goal.returns-in_err-frame-clause-kept
returns-in_err-frame-clause-kept g c pages tree = sound_on c.from_residual.result _ _ c.from_residual.ensures.1 (c.in_err-frame.ensures.kept pages tree)

pub returns-in_default-clause-outcome : goal.returns-in_default-clause-outcome
returns-in_default-clause-outcome g c = read_more g.D.Disk mild refl c.in_ok-frame.ensures.outcome

pub returns-in_default-clause-kept : goal.returns-in_default-clause-kept
returns-in_default-clause-kept g c pages tree = on_way (at_hidden c.in_ok-frame.field-0 _ _ c.in_default.not-Seen (c.in_ok-frame.ensures.kept pages tree))

pub returns-in_default-clause-far : goal.returns-in_default-clause-far
returns-in_default-clause-far g c = at_hidden c.in_ok-frame.field-0 _ _ c.in_default.not-Seen c.in_ok-frame.ensures.settled

pub returns-in_err-list-clause-outcome : goal.returns-in_err-list-clause-outcome
returns-in_err-list-clause-outcome g c = refused g.D.Disk c.from_residual-in_err-list.result c.from_residual-in_err-list.ensures.1 (out_of_memory g.D.Disk c.in_err-list.ensures.memory c.in_ok-frame.ensures.outcome)

pub returns-in_err-list-clause-kept : goal.returns-in_err-list-clause-kept
returns-in_err-list-clause-kept g c pages tree = sound_on c.from_residual-in_err-list.result _ _ c.from_residual-in_err-list.ensures.1 (memory_not c.in_err-list.field-0.0 c.in_err-list.ensures.memory)

pub returns-then-limit-eq0-clause-outcome : goal.returns-then-limit-eq0-clause-outcome
returns-then-limit-eq0-clause-outcome g c = read_more g.D.Disk mild refl c.in_ok-frame.ensures.outcome

pub returns-then-limit-eq0-clause-kept : goal.returns-then-limit-eq0-clause-kept
returns-then-limit-eq0-clause-kept g c pages tree =
    let r = at_seen c.in_ok-frame.field-0 c.in-Seen.frame _ _ c.in-Seen.is (c.in_ok-frame.ensures.kept pages tree) in
    let lo = c.args.lo.now in
    let hi = c.args.hi.now in
    record {
      range = subst (λ (es : List Entry). IsRange (walk (bodies_of pages)) lo hi c.args.limit es None) (sym c.in_ok-list.ensures.none) (range_of_none (walk (bodies_of pages)) lo hi c.args.limit c.if-limit-eq0.true);
      gets = record { n = 0; passes = passes_none (bodies_of pages) lo hi c.in-Seen.frame.number r.reached.way; one = λ _. r.gets; more = omega (arith, r.gets) };
    }

pub returns-then-lies_below-clause-outcome : goal.returns-then-lies_below-clause-outcome
returns-then-lies_below-clause-outcome g c = read_more g.D.Disk mild refl c.in_ok-frame.ensures.outcome

pub returns-then-lies_below-clause-kept : goal.returns-then-lies_below-clause-kept
returns-then-lies_below-clause-kept g c pages tree =
    let r = at_seen c.in_ok-frame.field-0 c.in-Seen.frame _ _ c.in-Seen.is (c.in_ok-frame.ensures.kept pages tree) in
    let lo = c.args.lo.now in
    let hi = c.args.hi.now in
    record {
      range = subst (λ (es : List Entry). IsRange (walk (bodies_of pages)) lo hi c.args.limit es None) (sym c.in_ok-list.ensures.none) (empty_range (walk (bodies_of pages)) lo hi c.args.limit (search rules));
      gets = record { n = 0; passes = passes_none (bodies_of pages) lo hi c.in-Seen.frame.number r.reached.way; one = λ _. r.gets; more = omega (arith, r.gets) };
    }

pub returns-in_err-behind-clause-outcome : goal.returns-in_err-behind-clause-outcome
returns-in_err-behind-clause-outcome g c = refused g.D.Disk c.from_residual-in_err-behind.result c.from_residual-in_err-behind.ensures.1 (out_of_memory g.D.Disk c.in_err-behind.ensures.memory c.in_ok-frame.ensures.outcome)

pub returns-in_err-behind-clause-kept : goal.returns-in_err-behind-clause-kept
returns-in_err-behind-clause-kept g c pages tree = sound_on c.from_residual-in_err-behind.result _ _ c.from_residual-in_err-behind.ensures.1 (memory_not c.in_err-behind.field-0.0 c.in_err-behind.ensures.memory)

pub returns-in-Some-clause-outcome : goal.returns-in-Some-clause-outcome
returns-in-Some-clause-outcome g c = read_more g.D.Disk mild refl c.in_ok-frame.ensures.outcome

pub returns-in-Some-clause-kept : goal.returns-in-Some-clause-kept
returns-in-Some-clause-kept g c pages tree =
    let r = at_seen c.in_ok-frame.field-0 c.in-Seen.frame _ _ c.in-Seen.is (c.in_ok-frame.ensures.kept pages tree) in
    let lo = c.args.lo.now in
    let hi = c.args.hi.now in
    let p = c.in-Seen.frame.number in
    let lent = c.page-leaf.result.now in
    let list = c.add_part.new.list.items in
    let not_less : is_below hi lo ≡ false = search rules in
    let begun = along_begins (bodies_of pages) tree.spare lo hi p tree.good r.reached.way not_less in
    let part = part_some lo hi c.args.limit lent.body.entries c.in_ok-list.list.items list c.in_ok-behind.field-0 c.in-Some.behind c.in-Some.is c.in_ok-behind.ensures.part in
    let from_none = subst (λ (es : List Entry). IsPart lo hi c.args.limit lent.body.entries es list (Some c.in-Some.behind)) c.in_ok-list.ensures.none part in
    record {
      range = along_stops (bodies_of pages) tree.spare lo hi c.args.limit [] list 0 p tree.good not_less begun (way_known (bodies_of pages) tree.spare 0 lo p tree.good r.reached.way).0 lent (page_at c.leaf_beside.new.writer.pool p) c.page-leaf.ensures.page
          (ap (λ (x : Page). x.body) r.reached.shown) c.in-Some.behind from_none;
      gets = record { n = 0; passes = passes_none (bodies_of pages) lo hi p r.reached.way; one = λ _. r.gets; more = omega (arith, r.gets) };
    }

pub returns-in_err-behind-2-clause-outcome : goal.returns-in_err-behind-2-clause-outcome
returns-in_err-behind-2-clause-outcome g c = refused g.D.Disk c.from_residual-in_err-behind-2.result c.from_residual-in_err-behind-2.ensures.1 (then g.D.Disk c.in_ok-frame.ensures.outcome c.in_err-behind-2.ensures.outcome)

pub returns-in_err-behind-2-clause-kept : goal.returns-in_err-behind-2-clause-kept
returns-in_err-behind-2-clause-kept g c pages tree =
    let r = (at_seen c.in_ok-frame.field-0 c.in-Seen.frame _ _ c.in-Seen.is (c.in_ok-frame.ensures.kept pages tree)).reached in
    let lo = c.args.lo.now in
    let hi = c.args.hi.now in
    let p = c.in-Seen.frame.number in
    let lent = c.page-leaf.result.now in
    let list = c.add_part.new.list.items in
    let not_less : is_below hi lo ≡ false = search rules in
    let begun = along_begins (bodies_of pages) tree.spare lo hi p tree.good r.way not_less in
    let part = part_none lo hi c.args.limit lent.body.entries c.in_ok-list.list.items list c.in_ok-behind.field-0 c.in_default-2.not-Some c.in_ok-behind.ensures.part in
    let from_none = subst (λ (es : List Entry). IsPart lo hi c.args.limit lent.body.entries es list None) c.in_ok-list.ensures.none part in
    let past = along_on (bodies_of pages) tree.spare lo hi c.args.limit [] list 0 p tree.good begun (way_known (bodies_of pages) tree.spare 0 lo p tree.good r.way).0 lent (page_at c.leaf_beside.new.writer.pool p) c.page-leaf.ensures.page (ap (λ (x : Page). x.body) r.shown) from_none in
    let next : IsAlong (bodies_of pages) lo hi list 1 c.next-next.result = subst (λ (q : ℕ). IsAlong (bodies_of pages) lo hi list 1 q) (sym c.next-next.ensures) past in
    sound_on c.from_residual-in_err-behind-2.result _ _ c.from_residual-in_err-behind-2.ensures.1 (c.in_err-behind-2.ensures.kept pages 1 (but_still g.D.Disk tree c.in_ok-frame.ensures.outcome) next (omega arith))

pub returns-in_default-3-clause-outcome : goal.returns-in_default-3-clause-outcome
returns-in_default-3-clause-outcome g c = then g.D.Disk c.in_ok-frame.ensures.outcome c.in_ok-behind-2.ensures.outcome

pub returns-in_default-3-clause-kept : goal.returns-in_default-3-clause-kept
returns-in_default-3-clause-kept g c pages tree =
    let r = (at_seen c.in_ok-frame.field-0 c.in-Seen.frame _ _ c.in-Seen.is (c.in_ok-frame.ensures.kept pages tree)).reached in
    let lo = c.args.lo.now in
    let hi = c.args.hi.now in
    let p = c.in-Seen.frame.number in
    let lent = c.page-leaf.result.now in
    let list = c.add_part.new.list.items in
    let not_less : is_below hi lo ≡ false = search rules in
    let begun = along_begins (bodies_of pages) tree.spare lo hi p tree.good r.way not_less in
    let part = part_none lo hi c.args.limit lent.body.entries c.in_ok-list.list.items list c.in_ok-behind.field-0 c.in_default-2.not-Some c.in_ok-behind.ensures.part in
    let from_none = subst (λ (es : List Entry). IsPart lo hi c.args.limit lent.body.entries es list None) c.in_ok-list.ensures.none part in
    let past = along_on (bodies_of pages) tree.spare lo hi c.args.limit [] list 0 p tree.good begun (way_known (bodies_of pages) tree.spare 0 lo p tree.good r.way).0 lent (page_at c.leaf_beside.new.writer.pool p) c.page-leaf.ensures.page (ap (λ (x : Page). x.body) r.shown) from_none in
    let next : IsAlong (bodies_of pages) lo hi list 1 c.next-next.result = subst (λ (q : ℕ). IsAlong (bodies_of pages) lo hi list 1 q) (sym c.next-next.ensures) past in
    at_hidden c.in_ok-behind-2.field-0 _ _ c.in_default-3.not-Seen (c.in_ok-behind-2.ensures.kept pages 1 (but_still g.D.Disk tree c.in_ok-frame.ensures.outcome) next (omega arith))

pub returns-in_default-3-clause-far : goal.returns-in_default-3-clause-far
returns-in_default-3-clause-far g c = at_hidden c.in_ok-behind-2.field-0 _ _ c.in_default-3.not-Seen c.in_ok-behind-2.ensures.far

pub returns-clause-far : goal.returns-clause-far
returns-clause-far g c = at_seen c.in_ok-behind-2.field-0 c.in-Seen-2.behind _ _ c.in-Seen-2.is c.in_ok-behind-2.ensures.far

pub returns-clause-outcome : goal.returns-clause-outcome
returns-clause-outcome g c = then g.D.Disk c.in_ok-frame.ensures.outcome c.in_ok-behind-2.ensures.outcome

gets_of : (pages : Pages) (lo hi : _) (old mid gets : ℕ) → mid ≡ old + (height pages + 1) → PassesOn pages lo hi 1 mid gets → GetsOf pages lo hi old gets
gets_of pages lo hi old mid gets is on = record { n = on.m; passes = on.passes; one = λ none. absurd (omega (arith, none, on.some)); more = omega (arith, is, on.count) }

pub returns-clause-kept : goal.returns-clause-kept
returns-clause-kept g c pages tree =
    let leaf = at_seen c.in_ok-frame.field-0 c.in-Seen.frame _ _ c.in-Seen.is (c.in_ok-frame.ensures.kept pages tree) in
    let r = leaf.reached in
    let lo = c.args.lo.now in
    let hi = c.args.hi.now in
    let p = c.in-Seen.frame.number in
    let v = c.leaf_beside.new.writer in
    let lent = c.page-leaf.result.now in
    let list = c.add_part.new.list.items in
    let not_less : is_below hi lo ≡ false = search rules in
    let begun = along_begins (bodies_of pages) tree.spare lo hi p tree.good r.way not_less in
    let part = part_none lo hi c.args.limit lent.body.entries c.in_ok-list.list.items list c.in_ok-behind.field-0 c.in_default-2.not-Some c.in_ok-behind.ensures.part in
    let from_none = subst (λ (es : List Entry). IsPart lo hi c.args.limit lent.body.entries es list None) c.in_ok-list.ensures.none part in
    let past = along_on (bodies_of pages) tree.spare lo hi c.args.limit [] list 0 p tree.good begun (way_known (bodies_of pages) tree.spare 0 lo p tree.good r.way).0 lent (page_at v.pool p) c.page-leaf.ensures.page (ap (λ (x : Page). x.body) r.shown) from_none in
    let next : IsAlong (bodies_of pages) lo hi list 1 c.next-next.result = subst (λ (q : ℕ). IsAlong (bodies_of pages) lo hi list 1 q) (sym c.next-next.ensures) past in
    let rest = at_seen c.in_ok-behind-2.field-0 c.in-Seen-2.behind _ _ c.in-Seen-2.is (c.in_ok-behind-2.ensures.kept pages 1 (but_still g.D.Disk tree c.in_ok-frame.ensures.outcome) next (omega arith)) in
    record { range = rest.range; gets = gets_of (bodies_of pages) lo hi c.args.writer.now.pool.gets v.pool.gets c.range_along.new.writer.pool.gets leaf.gets rest.gets }

pub returns-in_err-frame-clause-quiet : goal.returns-in_err-frame-clause-quiet
returns-in_err-frame-clause-quiet g c set working on = c.in_err-frame.ensures.quiet set working on.way

pub returns-in_default-clause-quiet : goal.returns-in_default-clause-quiet
returns-in_default-clause-quiet g c set working on = c.in_ok-frame.ensures.quiet set working on.way

pub returns-in_err-list-clause-quiet : goal.returns-in_err-list-clause-quiet
returns-in_err-list-clause-quiet g c set working on = c.in_ok-frame.ensures.quiet set working on.way

pub returns-then-limit-eq0-clause-quiet : goal.returns-then-limit-eq0-clause-quiet
returns-then-limit-eq0-clause-quiet g c set working on = c.in_ok-frame.ensures.quiet set working on.way

pub returns-then-lies_below-clause-quiet : goal.returns-then-lies_below-clause-quiet
returns-then-lies_below-clause-quiet g c set working on = c.in_ok-frame.ensures.quiet set working on.way

pub returns-in_err-behind-clause-quiet : goal.returns-in_err-behind-clause-quiet
returns-in_err-behind-clause-quiet g c set working on = c.in_ok-frame.ensures.quiet set working on.way

pub returns-in-Some-clause-quiet : goal.returns-in-Some-clause-quiet
returns-in-Some-clause-quiet g c set working on = c.in_ok-frame.ensures.quiet set working on.way

pub returns-in_err-behind-2-clause-quiet : goal.returns-in_err-behind-2-clause-quiet
returns-in_err-behind-2-clause-quiet g c set working on =
    let e = c.in_ok-frame.ensures in
    let frame = c.in-Seen.frame in
    let still = e.quiet set working on.way in
    let here = on_still c.args.lo.now set on still in
    let settled = at_seen c.in_ok-frame.field-0 frame _ _ c.in-Seen.is e.settled in
    let in_set = at_seen c.in_ok-frame.field-0 frame _ _ c.in-Seen.is (e.within set working on.way) in
    quiet_then still (c.in_err-behind-2.ensures.quiet set here
    (λ some. next_in_set c.args.lo.now set c.leaf_beside.new.writer.pool frame.number c.next-next.result c.page-leaf.result.now here in_set settled.level c.page-leaf.ensures.page c.next-next.ensures some))

pub returns-in_default-3-clause-quiet : goal.returns-in_default-3-clause-quiet
returns-in_default-3-clause-quiet g c set working on =
    let e = c.in_ok-frame.ensures in
    let frame = c.in-Seen.frame in
    let still = e.quiet set working on.way in
    let here = on_still c.args.lo.now set on still in
    let settled = at_seen c.in_ok-frame.field-0 frame _ _ c.in-Seen.is e.settled in
    let in_set = at_seen c.in_ok-frame.field-0 frame _ _ c.in-Seen.is (e.within set working on.way) in
    quiet_then still (c.in_ok-behind-2.ensures.quiet set here
    (λ some. next_in_set c.args.lo.now set c.leaf_beside.new.writer.pool frame.number c.next-next.result c.page-leaf.result.now here in_set settled.level c.page-leaf.ensures.page c.next-next.ensures some))

pub returns-clause-quiet : goal.returns-clause-quiet
returns-clause-quiet g c set working on =
    let e = c.in_ok-frame.ensures in
    let frame = c.in-Seen.frame in
    let still = e.quiet set working on.way in
    let here = on_still c.args.lo.now set on still in
    let settled = at_seen c.in_ok-frame.field-0 frame _ _ c.in-Seen.is e.settled in
    let in_set = at_seen c.in_ok-frame.field-0 frame _ _ c.in-Seen.is (e.within set working on.way) in
    quiet_then still (c.in_ok-behind-2.ensures.quiet set here
    (λ some. next_in_set c.args.lo.now set c.leaf_beside.new.writer.pool frame.number c.next-next.result c.page-leaf.result.now here in_set settled.level c.page-leaf.ensures.page c.next-next.ensures some))
