use Rattle.std.proofs.Common.{◌≡◌, ◌≤◌, ℕ, Bool, true, None}
use Rattle.im_page_writer.specs.Outcome.{AllPages, Reads}
use Rattle.im_tree_search.specs.Levels.{bodies_of, start_at}
use Rattle.im_theory_tree.specs.Lookups.{IsAhead}
use Rattle.im_tree_search.specs.Beside.{Comes}
use Rattle.im_tree_search.specs.Found.{GoesAlong}
use Rattle.im_tree_search.specs.HeldPages.{HoldsOn, IsQuiet}
use Rattle.im_tree_search.specs.Sights.{HasTreeBut}
use Rattle.im_tree_search.proofs.leaf_chain.first_along.Given as goal

abbrev pub invariant-loop-number : goal.invariant-loop-number
invariant-loop-number g l = record {
  outcome : Reads g.D.Disk l.fn.writer l.fn.disk l.writer l.disk None;
  kept : (pages : AllPages) → HasTreeBut g.D.Disk pages l.beside l.fn.writer l.fn.disk → IsAhead (bodies_of pages) (start_at l.inclusive l.key) 0 l.fn.from → Comes (bodies_of pages) (start_at l.inclusive l.key) l.fn.from
      → GoesAlong (bodies_of pages) (start_at l.inclusive l.key) l.left l.number × Comes (bodies_of pages) (start_at l.inclusive l.key) l.number;
  quiet : (set : ℕ → Bool) → HoldsOn l.key l.fn.writer.pool set → (1 ≤ l.fn.from → set l.fn.from ≡ true) → IsQuiet l.fn.writer l.fn.disk l.writer l.disk × (1 ≤ l.number → set l.number ≡ true);
}

abbrev pub decreases-loop-number : goal.decreases-loop-number
decreases-loop-number g l = l.left
