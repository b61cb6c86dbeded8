use Rattle.std.proofs.Common.{ap, refl}
use Rattle.im_base_types.specs.Pages.{Page}
use Rattle.im_page_pool.specs.Pool.{page_at}
use Rattle.im_page_writer.proofs.Outcomes.{sound_on, then}
use Rattle.im_theory_tree.proofs.LookupLemmas.{way_known}
use Rattle.im_tree_search.specs.Levels.{bodies_of, start_at}
use Rattle.im_tree_search.specs.Sights.{is_done}
use Rattle.im_tree_search.proofs.GoingOn.{comes_on, way_made}
use Rattle.im_tree_search.proofs.Chain.{ahead_answer, ahead_here, leads_on}
use Rattle.im_tree_search.proofs.Sighted.{at_hidden, at_seen, but_still}
use Rattle.im_tree_search.proofs.Quiet.{next_in_set, on_still, quiet_then}
use Rattle.im_tree_search.proofs.leaf_chain.next_entry.Goals as goal

pub returns-in_err-frame-clause-kept : goal.returns-in_err-frame-clause-kept
returns-in_err-frame-clause-kept g c pages tree = sound_on c.from_residual.result _ _ c.from_residual.ensures.1 (c.in_err-frame.ensures.kept pages tree)

pub returns-in_err-frame-clause-quiet : goal.returns-in_err-frame-clause-quiet
returns-in_err-frame-clause-quiet g c set working on = c.in_err-frame.ensures.quiet set working on.way

pub returns-in_default-clause-kept : goal.returns-in_default-clause-kept
returns-in_default-clause-kept g c pages tree =
    let made = at_hidden c.in_ok-frame.field-0 _ _ c.in_default.not-Seen (c.in_ok-frame.ensures.kept pages tree) in
    way_made (bodies_of pages) (is_done c.args.beside) c.args.inclusive c.args.key.now made.level made.page made.way made.made

pub returns-in_default-clause-first : goal.returns-in_default-clause-first
returns-in_default-clause-first g c = at_hidden c.in_ok-frame.field-0 _ _ c.in_default.not-Seen c.in_ok-frame.ensures.settled

pub returns-in_default-clause-quiet : goal.returns-in_default-clause-quiet
returns-in_default-clause-quiet g c set working on = c.in_ok-frame.ensures.quiet set working on.way

pub returns-in-Some-clause-kept : goal.returns-in-Some-clause-kept
returns-in-Some-clause-kept g c pages tree =
    let frame = c.in-Seen.frame in
    let p = frame.number in
    let r = (at_seen c.in_ok-frame.field-0 frame _ _ c.in-Seen.is (c.in_ok-frame.ensures.kept pages tree)).reached in
    let ahead = ahead_here (bodies_of pages) tree.spare c.args.inclusive c.args.key.now p tree.good r.way in
    ahead_answer (bodies_of pages) (start_at c.args.inclusive c.args.key.now) 0 p c.page-leaf.result.now (page_at c.leaf_beside.new.writer.pool p) c.in-Some.at ahead (way_known (bodies_of pages) tree.spare 0 c.args.key.now p tree.good r.way).0
    c.page-leaf.ensures.page (ap (λ (x : Page). x.body) r.shown) c.in-Some.ensures.some.1

pub returns-in-Some-clause-quiet : goal.returns-in-Some-clause-quiet
returns-in-Some-clause-quiet g c set working on = c.in_ok-frame.ensures.quiet set working on.way

pub returns-clause-outcome : goal.returns-clause-outcome
returns-clause-outcome g c = then g.D.Disk c.in_ok-frame.ensures.outcome c.first_along.ensures.outcome

pub returns-clause-kept : goal.returns-clause-kept
returns-clause-kept g c pages tree =
    let frame = c.in-Seen.frame in
    let p = frame.number in
    let r = (at_seen c.in_ok-frame.field-0 frame _ _ c.in-Seen.is (c.in_ok-frame.ensures.kept pages tree)).reached in
    let lent = c.page-leaf.result.now in
    let held = page_at c.leaf_beside.new.writer.pool p in
    let body = ap (λ (x : Page). x.body) r.shown in
    let none = c.in_default-first_past.ensures.none refl in
    let next = leads_on (bodies_of pages) tree.spare c.args.inclusive c.args.key.now p lent held c.next-next.result tree.good r.way c.page-leaf.ensures.page body none c.next-next.ensures in
    let comes = comes_on (bodies_of pages) tree.spare c.args.inclusive c.args.key.now p lent held c.next-next.result tree.good r.way c.page-leaf.ensures.page body none c.next-next.ensures in
    c.first_along.ensures.kept pages (but_still g.D.Disk tree c.in_ok-frame.ensures.outcome) next comes

pub returns-clause-quiet : goal.returns-clause-quiet
returns-clause-quiet g c set working on =
    let e = c.in_ok-frame.ensures in
    let frame = c.in-Seen.frame in
    let still = e.quiet set working on.way in
    let here = on_still c.args.key.now set on still in
    let settled = at_seen c.in_ok-frame.field-0 frame _ _ c.in-Seen.is e.settled in
    let in_set = at_seen c.in_ok-frame.field-0 frame _ _ c.in-Seen.is (e.within set working on.way) in
    quiet_then still (c.first_along.ensures.quiet set here
    (λ some. next_in_set c.args.key.now set c.leaf_beside.new.writer.pool frame.number c.next-next.result c.page-leaf.result.now here in_set settled.level c.page-leaf.ensures.page c.next-next.ensures some))
