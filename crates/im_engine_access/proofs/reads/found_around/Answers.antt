use Rattle.std.proofs.Common.{Some, ◌∙◌, ap, inl, inr}
use Rattle.im_base_types.specs.Pages.{Entry, Page}
use Rattle.im_page_pool.specs.Pool.{page_at}
use Rattle.im_page_writer.proofs.Outcomes.{sound_on, then}
use Rattle.im_tree_search.specs.Backward.{on_way}
use Rattle.im_tree_search.specs.Levels.{bodies_of}
use Rattle.im_tree_search.proofs.GoingBack.{around_says}
use Rattle.im_tree_search.proofs.Quiet.{back_still, on_still, quiet_then}
use Rattle.im_tree_search.proofs.Sighted.{at_hidden, at_seen, but_still}
use Rattle.im_engine_access.proofs.reads.found_around.Goals as goal

pub returns-in_err-leaf-clause-kept : goal.returns-in_err-leaf-clause-kept
returns-in_err-leaf-clause-kept g c pages tree = sound_on c.from_residual.result _ _ c.from_residual.ensures.1 (c.in_err-leaf.ensures.kept pages tree)

pub returns-in_default-clause-kept : goal.returns-in_default-clause-kept
returns-in_default-clause-kept g c pages tree =
    let made = at_hidden c.in_ok-leaf.field-0 _ _ c.in_default.not-Seen (c.in_ok-leaf.ensures.kept pages tree) in
    inl (on_way made.level made.page made.way made.made)

pub returns-in-Some-clause-kept : goal.returns-in-Some-clause-kept
returns-in-Some-clause-kept g c pages tree =
    let leaf = c.in-Seen.leaf in
    let r = (at_seen c.in_ok-leaf.field-0 leaf _ _ c.in-Seen.is (c.in_ok-leaf.ensures.kept pages tree)).reached in
    let says = around_says (bodies_of pages) tree.spare c.args.key.now leaf.number c.page-page.result.now (page_at c.leaf_beside.new.writer.pool leaf.number) c.in-Some.place tree.good r.way c.page-page.ensures.page (ap (λ (x : Page). x.body) r.shown) c.in-Some.ensures.some in
    (ap (λ (e : Entry). Some e) c.in_ok-below.ensures.entry ∙ says.0, ap (λ (e : Entry). Some e) c.in_ok-next.ensures.entry ∙ says.1)

pub returns-in_err-next-2-clause-kept : goal.returns-in_err-next-2-clause-kept
returns-in_err-next-2-clause-kept g c pages tree = sound_on c.from_residual-in_err-next-2.result _ _ c.from_residual-in_err-next-2.ensures.1 (c.in_err-next-2.ensures.kept pages (but_still g.D.Disk tree c.in_ok-leaf.ensures.outcome))

pub returns-in_default-2-clause-kept : goal.returns-in_default-2-clause-kept
returns-in_default-2-clause-kept g c pages tree = inr (at_hidden c.in_ok-next-2.field-0 _ _ c.in_default-2.not-Seen (c.in_ok-next-2.ensures.kept pages (but_still g.D.Disk tree c.in_ok-leaf.ensures.outcome)))

pub returns-in_err-below-2-clause-kept : goal.returns-in_err-below-2-clause-kept
returns-in_err-below-2-clause-kept g c pages tree =
    let behind = but_still g.D.Disk (but_still g.D.Disk tree c.in_ok-leaf.ensures.outcome) c.in_ok-next-2.ensures.outcome in
    sound_on c.from_residual-in_err-below-2.result _ _ c.from_residual-in_err-below-2.ensures.1 (c.in_err-below-2.ensures.kept pages behind)

pub returns-in_default-3-clause-kept : goal.returns-in_default-3-clause-kept
returns-in_default-3-clause-kept g c pages tree =
    let behind = but_still g.D.Disk (but_still g.D.Disk tree c.in_ok-leaf.ensures.outcome) c.in_ok-next-2.ensures.outcome in
    inl (at_hidden c.in_ok-below-2.field-0 _ _ c.in_default-3.not-Seen (c.in_ok-below-2.ensures.kept pages behind))

pub returns-in_default-2-clause-outcome : goal.returns-in_default-2-clause-outcome
returns-in_default-2-clause-outcome g c = then g.D.Disk c.in_ok-leaf.ensures.outcome c.in_ok-next-2.ensures.outcome

pub returns-in_default-3-clause-outcome : goal.returns-in_default-3-clause-outcome
returns-in_default-3-clause-outcome g c = then g.D.Disk (then g.D.Disk c.in_ok-leaf.ensures.outcome c.in_ok-next-2.ensures.outcome) c.in_ok-below-2.ensures.outcome

pub returns-clause-outcome : goal.returns-clause-outcome
returns-clause-outcome g c = then g.D.Disk (then g.D.Disk c.in_ok-leaf.ensures.outcome c.in_ok-next-2.ensures.outcome) c.in_ok-below-2.ensures.outcome

pub returns-clause-kept : goal.returns-clause-kept
returns-clause-kept g c pages tree =
    let there = but_still g.D.Disk tree c.in_ok-leaf.ensures.outcome in
    let behind = but_still g.D.Disk there c.in_ok-next-2.ensures.outcome in
    (at_seen c.in_ok-below-2.field-0 _ _ _ c.in-Seen-3.is (c.in_ok-below-2.ensures.kept pages behind), at_seen c.in_ok-next-2.field-0 _ _ _ c.in-Seen-2.is (c.in_ok-next-2.ensures.kept pages there))

pub returns-in_err-leaf-clause-quiet : goal.returns-in_err-leaf-clause-quiet
returns-in_err-leaf-clause-quiet g c set working on back = c.in_err-leaf.ensures.quiet set working on.way

pub returns-in_default-clause-quiet : goal.returns-in_default-clause-quiet
returns-in_default-clause-quiet g c set working on back = c.in_ok-leaf.ensures.quiet set working on.way

pub returns-in-Some-clause-quiet : goal.returns-in-Some-clause-quiet
returns-in-Some-clause-quiet g c set working on back = c.in_ok-leaf.ensures.quiet set working on.way

pub returns-in_err-below-clause-quiet : goal.returns-in_err-below-clause-quiet
returns-in_err-below-clause-quiet g c set working on back = c.in_ok-leaf.ensures.quiet set working on.way

pub returns-in_err-next-clause-quiet : goal.returns-in_err-next-clause-quiet
returns-in_err-next-clause-quiet g c set working on back = c.in_ok-leaf.ensures.quiet set working on.way

pub returns-in_err-next-2-clause-quiet : goal.returns-in_err-next-2-clause-quiet
returns-in_err-next-2-clause-quiet g c set working on back =
    let e = c.in_ok-leaf.ensures in
    let still = e.quiet set working on.way in
    quiet_then still (c.in_err-next-2.ensures.quiet set e.outcome.ends.works (on_still c.args.key.now set on still))

pub returns-in_default-2-clause-quiet : goal.returns-in_default-2-clause-quiet
returns-in_default-2-clause-quiet g c set working on back =
    let e = c.in_ok-leaf.ensures in
    let still = e.quiet set working on.way in
    quiet_then still (c.in_ok-next-2.ensures.quiet set e.outcome.ends.works (on_still c.args.key.now set on still))

pub returns-in_err-below-2-clause-quiet : goal.returns-in_err-below-2-clause-quiet
returns-in_err-below-2-clause-quiet g c set working on back =
    let e = c.in_ok-leaf.ensures in
    let next = c.in_ok-next-2.ensures in
    let still = e.quiet set working on.way in
    let both = quiet_then still (next.quiet set e.outcome.ends.works (on_still c.args.key.now set on still)) in
    quiet_then both (c.in_err-below-2.ensures.quiet set next.outcome.ends.works (back_still c.args.key.now set back both))

pub returns-in_default-3-clause-quiet : goal.returns-in_default-3-clause-quiet
returns-in_default-3-clause-quiet g c set working on back =
    let e = c.in_ok-leaf.ensures in
    let next = c.in_ok-next-2.ensures in
    let still = e.quiet set working on.way in
    let both = quiet_then still (next.quiet set e.outcome.ends.works (on_still c.args.key.now set on still)) in
    quiet_then both (c.in_ok-below-2.ensures.quiet set next.outcome.ends.works (back_still c.args.key.now set back both))

pub returns-clause-quiet : goal.returns-clause-quiet
returns-clause-quiet g c set working on back =
    let e = c.in_ok-leaf.ensures in
    let next = c.in_ok-next-2.ensures in
    let still = e.quiet set working on.way in
    let both = quiet_then still (next.quiet set e.outcome.ends.works (on_still c.args.key.now set on still)) in
    quiet_then both (c.in_ok-below-2.ensures.quiet set next.outcome.ends.works (back_still c.args.key.now set back both))
