use Rattle.std.proofs.Common.{◌<◌, ℕ, false, length, refl, sym, ◌∙◌, ap, subst}
use Rattle.im_base_types.specs.Pages.{Page}
use Rattle.im_base_types.specs.Maps.{Above}
use Rattle.im_page_pool.specs.Pool.{page_at}
use Rattle.im_page_writer.proofs.Outcomes.{idle, sound_on, then}
use Rattle.im_theory_tree.proofs.LookupLemmas.{way_known}
use Rattle.im_tree_search.specs.Beside.{on_way}
use Rattle.im_tree_search.specs.Levels.{bodies_of}
use Rattle.im_tree_search.specs.Found.{IsReached, entries_of}
use Rattle.im_tree_search.proofs.GoingOn.{comes_on}
use Rattle.im_tree_search.proofs.Chain.{ahead_here, ahead_answer, leads_on}
use Rattle.im_tree_search.proofs.Sighted.{at_hidden, at_seen, but_still}
use Rattle.im_tree_search.proofs.NextNames.{far_is, far_within, key_of, never_both}
use Rattle.im_tree_search.proofs.Steps.{way_level}
use Rattle.im_tree_search.proofs.Quiet.{next_in_set, on_still, quiet_start, quiet_then}
use Rattle.im_tree_search.proofs.next_key.next_in_leaf_beside.Goals as goal

pub returns-in-Some-clause-outcome : goal.returns-in-Some-clause-outcome
returns-in-Some-clause-outcome g c = idle g.D.Disk g.met.D.Disk.only_now c.args.writer.now c.args.disk.now c.requires.working c.requires.ready

pub returns-in-Some-clause-kept : goal.returns-in-Some-clause-kept
returns-in-Some-clause-kept g c pages tree r =
    let p = c.args.leaf.number in
    let ahead = ahead_here (bodies_of pages) tree.spare false c.args.key.now p tree.good r.way in
    record {
      leaf = r;
      name = ap key_of (ahead_answer (bodies_of pages) (Above c.args.key.now) 0 p c.page-page.result.now (page_at c.args.writer.now.pool p) c.in-Some.at ahead (way_known (bodies_of pages) tree.spare 0 c.args.key.now p tree.good r.way).0
          c.page-page.ensures.page (ap (λ (x : Page). x.body) r.shown) c.in-Some.ensures.some.1);
      gets = λ here. refl;
    }

pub returns-in_err-name-clause-kept : goal.returns-in_err-name-clause-kept
returns-in_err-name-clause-kept g c pages tree r =
    let p = c.args.leaf.number in
    let held = page_at c.args.writer.now.pool p in
    let body = ap (λ (x : Page). x.body) r.shown in
    let none = c.in_default.ensures.none refl in
    let next = leads_on (bodies_of pages) tree.spare false c.args.key.now p c.page-page.result.now held c.next-next.result tree.good r.way c.page-page.ensures.page body none c.next-next.ensures in
    let comes = comes_on (bodies_of pages) tree.spare false c.args.key.now p c.page-page.result.now held c.next-next.result tree.good r.way c.page-page.ensures.page body none c.next-next.ensures in
    sound_on c.from_residual.result _ _ c.from_residual.ensures.1 (c.in_err-name.ensures.kept pages tree next comes)

pub returns-in_default-2-clause-kept : goal.returns-in_default-2-clause-kept
returns-in_default-2-clause-kept g c pages tree r =
    let p = c.args.leaf.number in
    let held = page_at c.args.writer.now.pool p in
    let body = ap (λ (x : Page). x.body) r.shown in
    let none = c.in_default.ensures.none refl in
    let next = leads_on (bodies_of pages) tree.spare false c.args.key.now p c.page-page.result.now held c.next-next.result tree.good r.way c.page-page.ensures.page body none c.next-next.ensures in
    let comes = comes_on (bodies_of pages) tree.spare false c.args.key.now p c.page-page.result.now held c.next-next.result tree.good r.way c.page-page.ensures.page body none c.next-next.ensures in
    at_hidden c.in_ok-name.field-0 _ _ c.in_default-2.not-Seen (c.in_ok-name.ensures.kept pages tree next comes)

pub returns-in_default-2-clause-at : goal.returns-in_default-2-clause-at
returns-in_default-2-clause-at g c = at_hidden c.in_ok-name.field-0 _ _ c.in_default-2.not-Seen c.in_ok-name.ensures.far

pub returns-in_err-frame-clause-kept : goal.returns-in_err-frame-clause-kept
returns-in_err-frame-clause-kept g c pages tree r =
    sound_on c.from_residual-in_err-frame.result _ _ c.from_residual-in_err-frame.ensures.1
    (c.in_err-frame.ensures.kept pages (but_still g.D.Disk tree c.in_ok-name.ensures.outcome) (way_level (bodies_of pages) 0 c.args.key.now c.args.leaf.number r.way))

pub returns-in_default-3-clause-outcome : goal.returns-in_default-3-clause-outcome
returns-in_default-3-clause-outcome g c = then g.D.Disk c.in_ok-name.ensures.outcome c.in_ok-frame.ensures.outcome

pub returns-in_default-3-clause-kept : goal.returns-in_default-3-clause-kept
returns-in_default-3-clause-kept g c pages tree r =
    let p = c.args.leaf.number in
    on_way 0 p r.way (at_hidden c.in_ok-frame.field-0 _ _ c.in_default-3.not-Seen (c.in_ok-frame.ensures.kept pages (but_still g.D.Disk tree c.in_ok-name.ensures.outcome) (way_level (bodies_of pages) 0 c.args.key.now p r.way)))

pub returns-in_default-3-clause-at : goal.returns-in_default-3-clause-at
returns-in_default-3-clause-at g c = at_hidden c.in_ok-frame.field-0 _ _ c.in_default-3.not-Seen c.in_ok-frame.ensures.settled

pub returns-clause-outcome : goal.returns-clause-outcome
returns-clause-outcome g c = then g.D.Disk c.in_ok-name.ensures.outcome c.in_ok-frame.ensures.outcome

pub returns-clause-kept : goal.returns-clause-kept
returns-clause-kept g c pages tree r =
    let p = c.args.leaf.number in
    let held = page_at c.args.writer.now.pool p in
    let body = ap (λ (x : Page). x.body) r.shown in
    let none = c.in_default.ensures.none refl in
    let next = leads_on (bodies_of pages) tree.spare false c.args.key.now p c.page-page.result.now held c.next-next.result tree.good r.way c.page-page.ensures.page body none c.next-next.ensures in
    let comes = comes_on (bodies_of pages) tree.spare false c.args.key.now p c.page-page.result.now held c.next-next.result tree.good r.way c.page-page.ensures.page body none c.next-next.ensures in
    let name = at_seen c.in_ok-name.field-0 c.in-Seen.name _ _ c.in-Seen.is (c.in_ok-name.ensures.kept pages tree next comes) in
    let far = at_seen c.in_ok-name.field-0 c.in-Seen.name _ _ c.in-Seen.is c.in_ok-name.ensures.far in
    let frame = c.in-Seen-2.frame in
    let shown = at_seen c.in_ok-frame.field-0 frame _ _ c.in-Seen-2.is (c.in_ok-frame.ensures.kept pages (but_still g.D.Disk tree c.in_ok-name.ensures.outcome) (way_level (bodies_of pages) 0 c.args.key.now p r.way)) in
    let pool = c.page_beside.new.writer.pool in
    let leaf : IsReached pages c.args.key.now 0 p pool = record { shown = shown; way = r.way } in
    record {
      leaf = subst (λ (n : ℕ). IsReached pages c.args.key.now 0 n pool) (sym (at_seen c.in_ok-frame.field-0 frame _ _ c.in-Seen-2.is c.in_ok-frame.ensures.frame)) leaf;
      name = far_is pool frame.number c.in-Seen.name far ∙ name;
      gets = λ here. absurd (never_both c.in-Seen.name far here);
    }

pub returns-clause-at : goal.returns-clause-at
returns-clause-at g c = (at_seen c.in_ok-frame.field-0 c.in-Seen-2.frame _ _ c.in-Seen-2.is c.in_ok-frame.ensures.settled).at

pub returns-clause-number : goal.returns-clause-number
returns-clause-number g c = at_seen c.in_ok-frame.field-0 c.in-Seen-2.frame _ _ c.in-Seen-2.is c.in_ok-frame.ensures.frame

pub returns-in-Some-clause-leaf : goal.returns-in-Some-clause-leaf
returns-in-Some-clause-leaf g c = record { level = c.requires.page; within = subst (λ (x : Page). c.in-Some.at < length x.body.entries) c.page-page.ensures.page c.in-Some.ensures.some.0 }

pub returns-clause-leaf : goal.returns-clause-leaf
returns-clause-leaf g c = record {
  level = (at_seen c.in_ok-frame.field-0 c.in-Seen-2.frame _ _ c.in-Seen-2.is c.in_ok-frame.ensures.settled).level;
  within = far_within (entries_of c.page_beside.new.writer.pool c.in-Seen-2.frame.number) c.in-Seen.name (at_seen c.in_ok-name.field-0 c.in-Seen.name _ _ c.in-Seen.is c.in_ok-name.ensures.far);
}

pub returns-in-Some-clause-quiet : goal.returns-in-Some-clause-quiet
returns-in-Some-clause-quiet g c set on in_set = quiet_start c.args.writer.now c.args.disk.now

pub returns-in_err-name-clause-quiet : goal.returns-in_err-name-clause-quiet
returns-in_err-name-clause-quiet g c set on in_set =
    c.in_err-name.ensures.quiet set on
    (λ some. next_in_set c.args.key.now set c.args.writer.now.pool c.args.leaf.number c.next-next.result c.page-page.result.now on in_set c.requires.page c.page-page.ensures.page c.next-next.ensures some)

pub returns-in_default-2-clause-quiet : goal.returns-in_default-2-clause-quiet
returns-in_default-2-clause-quiet g c set on in_set =
    c.in_ok-name.ensures.quiet set on
    (λ some. next_in_set c.args.key.now set c.args.writer.now.pool c.args.leaf.number c.next-next.result c.page-page.result.now on in_set c.requires.page c.page-page.ensures.page c.next-next.ensures some)

pub returns-in_err-frame-clause-quiet : goal.returns-in_err-frame-clause-quiet
returns-in_err-frame-clause-quiet g c set on in_set =
    let e = c.in_ok-name.ensures in
    let still = e.quiet set on
    (λ some. next_in_set c.args.key.now set c.args.writer.now.pool c.args.leaf.number c.next-next.result c.page-page.result.now on in_set c.requires.page c.page-page.ensures.page c.next-next.ensures some) in
    quiet_then still (c.in_err-frame.ensures.quiet e.outcome.ends.works ((on_still c.args.key.now set on still).way.held c.args.leaf.number in_set))

pub returns-in_default-3-clause-quiet : goal.returns-in_default-3-clause-quiet
returns-in_default-3-clause-quiet g c set on in_set =
    let e = c.in_ok-name.ensures in
    let still = e.quiet set on
    (λ some. next_in_set c.args.key.now set c.args.writer.now.pool c.args.leaf.number c.next-next.result c.page-page.result.now on in_set c.requires.page c.page-page.ensures.page c.next-next.ensures some) in
    quiet_then still (c.in_ok-frame.ensures.quiet e.outcome.ends.works ((on_still c.args.key.now set on still).way.held c.args.leaf.number in_set))

pub returns-clause-quiet : goal.returns-clause-quiet
returns-clause-quiet g c set on in_set =
    let e = c.in_ok-name.ensures in
    let still = e.quiet set on
    (λ some. next_in_set c.args.key.now set c.args.writer.now.pool c.args.leaf.number c.next-next.result c.page-page.result.now on in_set c.requires.page c.page-page.ensures.page c.next-next.ensures some) in
    quiet_then still (c.in_ok-frame.ensures.quiet e.outcome.ends.works ((on_still c.args.key.now set on still).way.held c.args.leaf.number in_set))
