use Rattle.std.proofs.Common.{◌≤◌, ℕ, List, suc, sym, subst, arith, refl}
use Rattle.im_page_pool.specs.Pool.{page_at}
use Rattle.im_page_writer.proofs.Outcomes.{sound_on, then, out_of_memory, read_more, refused, refuses}
use Rattle.im_tree_search.specs.Levels.{bodies_of}
use Rattle.im_tree_search.specs.Found.{IsListed}
use Rattle.im_tree_search.proofs.Walks.{listed_begins, listed_ends, listed_level, listed_next, listed_within, memory_not}
use Rattle.im_tree_search.proofs.Pages.{got_says, tree_still}
use Rattle.im_page_writer.specs.Outcome.{mild}
use Rattle.im_base_types.specs.declared.fault.Fault.TheVariants.{NotAStore}
use Rattle.im_tree_search.proofs.listing.entries.Goals as goal

pub returns-in_err-first-clause-outcome : goal.returns-in_err-first-clause-outcome
returns-in_err-first-clause-outcome g c = refused g.D.Disk c.from_residual.result c.from_residual.ensures.1 (read_more g.D.Disk mild refl c.in_err-first.ensures.outcome)

pub returns-in_err-first-clause-kept : goal.returns-in_err-first-clause-kept
returns-in_err-first-clause-kept g c pages tree = sound_on c.from_residual.result _ _ c.from_residual.ensures.1 (c.in_err-first.ensures.kept pages tree)

pub returns-in_err-left-clause-outcome : goal.returns-in_err-left-clause-outcome
returns-in_err-left-clause-outcome g c = refused g.D.Disk c.from_residual-in_err-left.result c.from_residual-in_err-left.ensures.1 (then g.D.Disk c.in_ok-first.ensures.outcome (read_more g.D.Disk mild refl c.in_err-left.ensures.outcome))

pub returns-in_err-left-clause-kept : goal.returns-in_err-left-clause-kept
returns-in_err-left-clause-kept g c pages tree = sound_on c.from_residual-in_err-left.result _ _ c.from_residual-in_err-left.ensures.1 (c.in_err-left.ensures.kept pages (tree_still g.D.Disk tree c.in_ok-first.ensures.outcome).has tree.good.meta)

pub loop-number-init : goal.loop-number-init
loop-number-init g c =
    let first = c.in_ok-first.ensures in
    let e = c.in_ok-left.ensures in
    record {
      outcome = then g.D.Disk first.outcome e.outcome;
      kept = λ pages tree. record {
        passed = 0;
        listed = subst (λ (es : List _). IsListed (bodies_of pages) es 0 c.in_ok-first.first.number) (sym c.new-list.ensures.items) (listed_begins (bodies_of pages) tree.spare c.in_ok-first.first.number tree.good (first.kept pages tree).reached.way);
        count = omega (arith, e.kept pages (tree_still g.D.Disk tree first.outcome).has tree.good.meta);
      };
    }

pub returns-then-left-eq0-clause-outcome : goal.returns-then-left-eq0-clause-outcome
returns-then-left-eq0-clause-outcome g c = refuses g.D.Disk NotAStore refl refl c.loop-number.invariant.outcome

pub returns-then-left-eq0-clause-kept : goal.returns-then-left-eq0-clause-kept
returns-then-left-eq0-clause-kept g c pages tree =
    let l = c.loop-number in
    let so = l.invariant.kept pages tree in
    absurd (listed_within (bodies_of pages) tree.spare l.list.items l.left so.passed l.number tree.good so.listed (omega (arith, c.loop-number-test.true)) so.count c.if-left-eq0.true)

pub returns-in_err-frame-clause-outcome : goal.returns-in_err-frame-clause-outcome
returns-in_err-frame-clause-outcome g c = refused g.D.Disk c.from_residual-in_err-frame.result c.from_residual-in_err-frame.ensures.1 (then g.D.Disk c.loop-number.invariant.outcome (read_more g.D.Disk mild refl c.in_err-frame.ensures.outcome))

pub returns-in_err-frame-clause-kept : goal.returns-in_err-frame-clause-kept
returns-in_err-frame-clause-kept g c pages tree =
    let l = c.loop-number in
    let so = l.invariant.kept pages tree in
    let level = listed_level (bodies_of pages) tree.spare l.list.items so.passed l.number tree.good so.listed (omega (arith, c.loop-number-test.true)) in
    sound_on c.from_residual-in_err-frame.result _ _ c.from_residual-in_err-frame.ensures.1 (c.in_err-frame.ensures.kept pages (tree_still g.D.Disk tree l.invariant.outcome).has level)

pub returns-in_err-add_entries-clause-outcome : goal.returns-in_err-add_entries-clause-outcome
returns-in_err-add_entries-clause-outcome g c = refused g.D.Disk c.from_residual-in_err-add_entries.result c.from_residual-in_err-add_entries.ensures.1 (out_of_memory g.D.Disk c.in_err-add_entries.ensures.memory (then g.D.Disk c.loop-number.invariant.outcome c.in_ok-frame.ensures.outcome))

pub returns-in_err-add_entries-clause-kept : goal.returns-in_err-add_entries-clause-kept
returns-in_err-add_entries-clause-kept g c pages tree = sound_on c.from_residual-in_err-add_entries.result _ _ c.from_residual-in_err-add_entries.ensures.1 (memory_not c.in_err-add_entries.field-0.0 c.in_err-add_entries.ensures.memory)

pub loop-number-preserved : goal.loop-number-preserved
loop-number-preserved g c =
    let l = c.loop-number in
    let pool = c.tree_page.new.writer.pool in
    let frame = c.in_ok-frame.frame in
    let e = c.in_ok-frame.ensures in
    let some : 1 ≤ l.number = omega (arith, c.loop-number-test.true) in
    record {
      outcome = then g.D.Disk l.invariant.outcome e.outcome;
      kept = λ pages tree.
          let so = l.invariant.kept pages tree in
          let level = listed_level (bodies_of pages) tree.spare l.list.items so.passed l.number tree.good so.listed some in
          let says = got_says pages l.number pool frame (e.kept pages (tree_still g.D.Disk tree l.invariant.outcome).has level) e.frame in
          let list = c.add_entries.new.list.items in
          let past = listed_next (bodies_of pages) tree.spare l.list.items list so.passed l.number c.page-leaf.result.now (page_at pool frame.number) tree.good so.listed some c.page-leaf.ensures.page says c.in_ok-add_entries.ensures.added in
          record {
            passed = suc so.passed;
            listed = subst (λ (n : ℕ). IsListed (bodies_of pages) list (suc so.passed) n) (sym c.next-number.ensures) past;
            count = omega (arith, so.count, c.if-left-eq0.false);
          };
    }

pub returns-clause-outcome : goal.returns-clause-outcome
returns-clause-outcome g c = read_more g.D.Disk mild refl c.loop-number.invariant.outcome

pub returns-clause-kept : goal.returns-clause-kept
returns-clause-kept g c pages tree =
    let l = c.loop-number in
    let so = l.invariant.kept pages tree in
    listed_ends (bodies_of pages) tree.spare l.list.items so.passed l.number tree.good so.listed (omega (arith, c.loop-number-test.false))
