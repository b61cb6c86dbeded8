use Rattle.std.proofs.Common.{◌≡◌, ℕ, true, ap, sym, ◌∙◌, subst, arith}
use Rattle.im_base_types.specs.Pages.{Page}
use Rattle.im_page_pool.specs.Pool.{page_at}
use Rattle.im_page_writer.proofs.Outcomes.{sound_on, then}
use Rattle.im_theory_tree.specs.Levels.{height}
use Rattle.im_tree_search.specs.Levels.{bodies_of}
use Rattle.im_tree_search.specs.Found.{IsReached}
use Rattle.im_tree_search.specs.Sights.{IsSettled}
use Rattle.im_tree_search.proofs.Sighted.{at_hidden, at_seen, but_still}
use Rattle.im_tree_search.proofs.Quiet.{quiet_then, way_still}
use Rattle.im_tree_search.proofs.descent.leaf_beside.Goals as goal

pub returns-in_err-top-clause-kept : goal.returns-in_err-top-clause-kept
returns-in_err-top-clause-kept g c pages tree = sound_on c.from_residual.result _ _ c.from_residual.ensures.1 (c.in_err-top.ensures.kept pages c.args.key.now tree)

pub returns-in_err-top-clause-quiet : goal.returns-in_err-top-clause-quiet
returns-in_err-top-clause-quiet g c set working way = c.in_err-top.ensures.quiet working (way.held 1 way.root)

pub returns-in_default-clause-kept : goal.returns-in_default-clause-kept
returns-in_default-clause-kept g c pages tree = at_hidden c.in_ok-top.field-0 _ _ c.in_default.not-Seen (c.in_ok-top.ensures.kept pages c.args.key.now tree)

pub returns-in_default-clause-settled : goal.returns-in_default-clause-settled
returns-in_default-clause-settled g c = at_hidden c.in_ok-top.field-0 _ _ c.in_default.not-Seen c.in_ok-top.ensures.settled

pub returns-in_default-clause-quiet : goal.returns-in_default-clause-quiet
returns-in_default-clause-quiet g c set working way = c.in_ok-top.ensures.quiet working (way.held 1 way.root)

pub loop-level-init : goal.loop-level-init
loop-level-init g c =
    let e = c.in_ok-top.ensures in
    let top = c.in-Seen.top in
    let pool = c.root_beside.new.writer.pool in
    let one = at_seen c.in_ok-top.field-0 top _ _ c.in-Seen.is e.root in
    let gets = at_seen c.in_ok-top.field-0 top _ _ c.in-Seen.is e.gets in
    let settled = at_seen c.in_ok-top.field-0 top _ _ c.in-Seen.is e.settled in
    let level : c.level-level.result ≡ (page_at pool top.number).body.level = c.level-level.ensures ∙ ap (λ (x : Page). x.body.level) c.page.ensures.page in
    record {
      outcome = e.outcome;
      settled = subst (λ (h : ℕ). IsSettled h c.args.beside pool top) (sym level) settled;
      kept = λ pages tree.
          let r = at_seen c.in_ok-top.field-0 top _ _ c.in-Seen.is (e.kept pages c.args.key.now tree) in
          let same : page_at pool top.number ≡ pages 1 = r.shown ∙ ap pages one in
          let tall : c.level-level.result ≡ height (bodies_of pages) = level ∙ ap (λ (x : Page). x.body.level) same in
          record {
            reached = subst (λ (h : ℕ). IsReached pages c.args.key.now h top.number pool) (sym tall) r;
            count = omega (arith, gets, tall);
          };
      quiet = λ set working way. (e.quiet working (way.held 1 way.root), subst (λ (n : ℕ). set n ≡ true) (sym one) way.root);
    }

pub returns-in_err-child-clause-kept : goal.returns-in_err-child-clause-kept
returns-in_err-child-clause-kept g c pages tree =
    let l = c.loop-level in
    sound_on c.from_residual-in_err-child.result _ _ c.from_residual-in_err-child.ensures.1 (c.in_err-child.ensures.kept pages (but_still g.D.Disk tree l.invariant.outcome) (l.invariant.kept pages tree).reached)

pub returns-in_err-child-clause-quiet : goal.returns-in_err-child-clause-quiet
returns-in_err-child-clause-quiet g c set working way =
    let l = c.loop-level in
    let was = l.invariant.quiet set working way in
    quiet_then was.0 (c.in_err-child.ensures.quiet set l.invariant.outcome.ends.works (way_still c.args.key.now set way was.0) was.1)

pub returns-in_default-2-clause-outcome : goal.returns-in_default-2-clause-outcome
returns-in_default-2-clause-outcome g c = then g.D.Disk c.loop-level.invariant.outcome c.in_ok-child.ensures.outcome

pub returns-in_default-2-clause-kept : goal.returns-in_default-2-clause-kept
returns-in_default-2-clause-kept g c pages tree =
    let l = c.loop-level in
    at_hidden c.in_ok-child.field-0 _ _ c.in_default-2.not-Seen (c.in_ok-child.ensures.kept pages (but_still g.D.Disk tree l.invariant.outcome) (l.invariant.kept pages tree).reached)

pub returns-in_default-2-clause-settled : goal.returns-in_default-2-clause-settled
returns-in_default-2-clause-settled g c = at_hidden c.in_ok-child.field-0 _ _ c.in_default-2.not-Seen c.in_ok-child.ensures.settled

pub returns-in_default-2-clause-quiet : goal.returns-in_default-2-clause-quiet
returns-in_default-2-clause-quiet g c set working way =
    let l = c.loop-level in
    let was = l.invariant.quiet set working way in
    quiet_then was.0 (c.in_ok-child.ensures.quiet set l.invariant.outcome.ends.works (way_still c.args.key.now set way was.0) was.1)

pub loop-level-preserved : goal.loop-level-preserved
loop-level-preserved g c =
    let l = c.loop-level in
    let e = c.in_ok-child.ensures in
    let child = c.in-Seen-2.child in
    let gets = at_seen c.in_ok-child.field-0 child _ _ c.in-Seen-2.is e.gets in
    record {
      outcome = then g.D.Disk l.invariant.outcome e.outcome;
      settled = at_seen c.in_ok-child.field-0 child _ _ c.in-Seen-2.is e.settled;
      kept = λ pages tree.
          let was = l.invariant.kept pages tree in
          record { reached = at_seen c.in_ok-child.field-0 child _ _ c.in-Seen-2.is (e.kept pages (but_still g.D.Disk tree l.invariant.outcome) was.reached); count = omega (arith, gets, was.count, c.loop-level-test.true) };
      quiet = λ set working way.
          let was = l.invariant.quiet set working way in
          let here = way_still c.args.key.now set way was.0 in
          (quiet_then was.0 (e.quiet set l.invariant.outcome.ends.works here was.1), at_seen c.in_ok-child.field-0 child _ _ c.in-Seen-2.is (e.within set here was.1));
    }

pub returns-clause-kept : goal.returns-clause-kept
returns-clause-kept g c pages tree =
    let l = c.loop-level in
    let was = l.invariant.kept pages tree in
    let end : l.level ≡ 0 = omega (arith, c.loop-level-test.false) in
    record { reached = subst (λ (h : ℕ). IsReached pages c.args.key.now h l.frame.number l.writer.pool) end was.reached; gets = omega (arith, was.count, end) }

pub returns-clause-settled : goal.returns-clause-settled
returns-clause-settled g c =
    let l = c.loop-level in
    let end : l.level ≡ 0 = omega (arith, c.loop-level-test.false) in
    subst (λ (h : ℕ). IsSettled h c.args.beside l.writer.pool l.frame) end l.invariant.settled

pub returns-clause-quiet : goal.returns-clause-quiet
returns-clause-quiet g c set working way = (c.loop-level.invariant.quiet set working way).0

pub returns-clause-within : goal.returns-clause-within
returns-clause-within g c set working way = (c.loop-level.invariant.quiet set working way).1
