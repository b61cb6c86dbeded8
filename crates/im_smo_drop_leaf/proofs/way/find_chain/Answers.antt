use Rattle.std.proofs.Common.{◌≡◌, ◌∙◌, ℕ, ◌-◌, ◌≤◌, suc, refl, subst, arith}
use Rattle.im_page_writer.proofs.Outcomes.{out_of_memory, pages_still, refused, sound_on, then, read_more}
use Rattle.im_base_types.specs.Pages.{Body}
use Rattle.im_tree_search.specs.Children.{IsChildOf}
use Rattle.im_smo_pages.specs.Seen.{bodies}
use Rattle.im_smo_pages.proofs.Results.{memory_not}
use Rattle.im_smo_drop_leaf.specs.Ways.{IsPlaced}
use Rattle.im_smo_drop_leaf.proofs.WithoutEntries.{inner_level, inner_same, root_level}
use Rattle.im_smo_drop_leaf.proofs.Placing.{placed, root_placed}
use Rattle.im_page_writer.specs.Outcome.{mild}
use Rattle.im_smo_drop_leaf.proofs.way.find_chain.Goals as goal

pub returns-in_err-level-clause-outcome : goal.returns-in_err-level-clause-outcome
returns-in_err-level-clause-outcome g c = refused g.D.Disk c.from_residual.result c.from_residual.ensures.1 (read_more g.D.Disk mild refl c.in_err-level.ensures.outcome)

pub returns-in_err-level-clause-kept : goal.returns-in_err-level-clause-kept
returns-in_err-level-clause-kept g c pages tree has same good = sound_on c.from_residual.result _ _ c.from_residual.ensures.1 (c.in_err-level.ensures.kept pages has (root_level (bodies pages) tree c.args.key.now same good))

pub loop-level-init : goal.loop-level-init
loop-level-init g c =
    let e = c.in_ok-level.ensures in
    record {
      outcome = read_more g.D.Disk mild refl e.outcome;
      kept = λ pages tree has same good.
          let root = root_level (bodies pages) tree c.args.key.now same good in
          root_placed tree c.args.key.now c.in_ok-level.level _ c.args.above.now.items good (e.kept pages has root ∙ same.level 1) refl;
    }

pub returns-in_err-child-clause-outcome : goal.returns-in_err-child-clause-outcome
returns-in_err-child-clause-outcome g c = refused g.D.Disk c.from_residual-in_err-child.result c.from_residual-in_err-child.ensures.1 (then g.D.Disk c.loop-level.invariant.outcome (read_more g.D.Disk mild refl c.in_err-child.ensures.outcome))

pub returns-in_err-child-clause-kept : goal.returns-in_err-child-clause-kept
returns-in_err-child-clause-kept g c pages tree has same good =
    let l = c.loop-level in
    let some : 1 ≤ l.level = omega (arith, c.loop-level-test.true) in
    let level = inner_level (bodies pages) tree l.level c.args.key.now l.place.number same some (l.invariant.kept pages tree has same good).way in
    sound_on c.from_residual-in_err-child.result _ _ c.from_residual-in_err-child.ensures.1 (c.in_err-child.ensures.kept pages (pages_still g.D.Disk has l.invariant.outcome) some level)

pub returns-in_err-place-clause-outcome : goal.returns-in_err-place-clause-outcome
returns-in_err-place-clause-outcome g c =
    refused g.D.Disk c.from_residual-in_err-place.result c.from_residual-in_err-place.ensures.1
    (out_of_memory g.D.Disk c.in_err-place.ensures.refused (then g.D.Disk c.loop-level.invariant.outcome c.in_ok-child.ensures.outcome))

pub returns-in_err-place-clause-kept : goal.returns-in_err-place-clause-kept
returns-in_err-place-clause-kept g c pages tree has same good = sound_on c.from_residual-in_err-place.result _ _ c.from_residual-in_err-place.ensures.1 (memory_not _ c.in_err-place.ensures.refused)

pub loop-level-preserved : goal.loop-level-preserved
loop-level-preserved g c =
    let l = c.loop-level in
    let e = c.in_ok-child.ensures in
    record {
      outcome = then g.D.Disk l.invariant.outcome (read_more g.D.Disk mild refl e.outcome);
      kept = λ pages tree has same good.
          let so = l.invariant.kept pages tree has same good in
          let some : 1 ≤ l.level = omega (arith, c.loop-level-test.true) in
          let level = inner_level (bodies pages) tree l.level c.args.key.now l.place.number same some so.way in
          let is = inner_same (bodies pages) tree l.level c.args.key.now l.place.number same some so.way in
          let child = subst (λ (x : Body). IsChildOf x c.args.key.now c.in_ok-child.child) is (e.kept pages (pages_still g.D.Disk has l.invariant.outcome) some level) in
          let k : ℕ = l.level - 1 in
          let up : l.level ≡ suc k = omega (arith, some) in
          let here = subst (λ (h : ℕ). IsPlaced tree c.args.key.now l.place.parent l.place.place h l.place.number l.above.items) up so in
          placed tree c.args.key.now k l.place c.in_ok-child.child c.in_ok-place.place l.above.items c.next_place.new.above.items here child c.in_ok-place.ensures.next;
    }

pub returns-clause-outcome : goal.returns-clause-outcome
returns-clause-outcome g c = c.loop-level.invariant.outcome

pub returns-clause-kept : goal.returns-clause-kept
returns-clause-kept g c pages tree has same good =
    let l = c.loop-level in
    let end : l.level ≡ 0 = omega (arith, c.loop-level-test.false) in
    subst (λ (h : ℕ). IsPlaced tree c.args.key.now l.place.parent l.place.place h l.place.number l.above.items) end (l.invariant.kept pages tree has same good)
