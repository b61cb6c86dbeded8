use Rattle.std.proofs.Common.{ap, refl}
use Rattle.im_base_types.specs.Pages.{Page}
use Rattle.im_page_pool.specs.Pool.{page_at}
use Rattle.im_page_writer.proofs.Outcomes.{sound_on, then}
use Rattle.im_tree_search.specs.Backward.{on_way}
use Rattle.im_tree_search.specs.Levels.{bodies_of}
use Rattle.im_tree_search.proofs.GoingBack.{back_from, back_here}
use Rattle.im_tree_search.proofs.Sighted.{at_hidden, at_seen, but_still}
use Rattle.im_tree_search.proofs.Quiet.{back_still, prev_in_set, quiet_then}
use Rattle.im_tree_search.proofs.chain_back.prev_entry.Goals as goal

pub returns-in_err-frame-clause-kept : goal.returns-in_err-frame-clause-kept
returns-in_err-frame-clause-kept g c pages tree = sound_on c.from_residual.result _ _ c.from_residual.ensures.1 (c.in_err-frame.ensures.kept pages tree)

pub returns-in_err-frame-clause-quiet : goal.returns-in_err-frame-clause-quiet
returns-in_err-frame-clause-quiet g c set working back = c.in_err-frame.ensures.quiet set working back.way

pub returns-in_default-clause-kept : goal.returns-in_default-clause-kept
returns-in_default-clause-kept g c pages tree =
    let made = at_hidden c.in_ok-frame.field-0 _ _ c.in_default.not-Seen (c.in_ok-frame.ensures.kept pages tree) in
    on_way made.level made.page made.way made.made

pub returns-in_default-clause-last : goal.returns-in_default-clause-last
returns-in_default-clause-last g c = at_hidden c.in_ok-frame.field-0 _ _ c.in_default.not-Seen c.in_ok-frame.ensures.settled

pub returns-in_default-clause-quiet : goal.returns-in_default-clause-quiet
returns-in_default-clause-quiet g c set working back = c.in_ok-frame.ensures.quiet set working back.way

pub returns-in-Some-clause-kept : goal.returns-in-Some-clause-kept
returns-in-Some-clause-kept g c pages tree =
    let frame = c.in-Seen.frame in
    let p = frame.number in
    let r = (at_seen c.in_ok-frame.field-0 frame _ _ c.in-Seen.is (c.in_ok-frame.ensures.kept pages tree)).reached in
    back_here (bodies_of pages) tree.spare c.args.key.now p c.page-leaf.result.now (page_at c.leaf_beside.new.writer.pool p) c.in-Some.at tree.good r.way c.page-leaf.ensures.page (ap (λ (x : Page). x.body) r.shown) c.in-Some.ensures.some.1

pub returns-in-Some-clause-quiet : goal.returns-in-Some-clause-quiet
returns-in-Some-clause-quiet g c set working back = c.in_ok-frame.ensures.quiet set working back.way

pub returns-clause-outcome : goal.returns-clause-outcome
returns-clause-outcome g c = then g.D.Disk c.in_ok-frame.ensures.outcome c.last_along.ensures.outcome

pub returns-clause-kept : goal.returns-clause-kept
returns-clause-kept g c pages tree =
    let frame = c.in-Seen.frame in
    let p = frame.number in
    let r = (at_seen c.in_ok-frame.field-0 frame _ _ c.in-Seen.is (c.in_ok-frame.ensures.kept pages tree)).reached in
    let none = c.in_default-last_below.ensures.none refl in
    let comes = back_from (bodies_of pages) tree.spare c.args.key.now p c.page-leaf.result.now (page_at c.leaf_beside.new.writer.pool p) c.prev-prev.result tree.good r.way c.page-leaf.ensures.page (ap (λ (x : Page). x.body) r.shown) none c.prev-prev.ensures in
    c.last_along.ensures.kept pages (but_still g.D.Disk tree c.in_ok-frame.ensures.outcome) comes

pub returns-clause-quiet : goal.returns-clause-quiet
returns-clause-quiet g c set working back =
    let e = c.in_ok-frame.ensures in
    let frame = c.in-Seen.frame in
    let still = e.quiet set working back.way in
    let here = back_still c.args.key.now set back still in
    let settled = at_seen c.in_ok-frame.field-0 frame _ _ c.in-Seen.is e.settled in
    let in_set = at_seen c.in_ok-frame.field-0 frame _ _ c.in-Seen.is (e.within set working back.way) in
    quiet_then still (c.last_along.ensures.quiet set here
    (λ some. prev_in_set c.args.key.now set c.leaf_beside.new.writer.pool frame.number c.prev-prev.result c.page-leaf.result.now here in_set settled.level c.page-leaf.ensures.page c.prev-prev.ensures some))
