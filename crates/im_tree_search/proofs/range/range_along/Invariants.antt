use Rattle.std.proofs.Common.{◌≡◌, ◌≤◌, ◌<◌, None, length, ℕ, Bool, true}
use Rattle.im_page_writer.specs.Outcome.{AllPages, Reads}
use Rattle.im_tree_search.specs.HeldPages.{HoldsOn, IsQuiet}
use Rattle.im_tree_search.specs.Levels.{bodies_of}
use Rattle.im_tree_search.specs.Ranges.{IsAlong, RangesOn}
use Rattle.im_tree_search.specs.Sights.{HasTreeBut}
use Rattle.im_tree_search.proofs.range.range_along.Given as goal

abbrev pub invariant-loop-number : goal.invariant-loop-number
invariant-loop-number g l = record {
  outcome : Reads g.D.Disk l.fn.writer l.fn.disk l.writer l.disk None;
  room : length l.list.items < l.limit;
  kept : (pages : AllPages) (n : ℕ) → HasTreeBut g.D.Disk pages l.beside l.fn.writer l.fn.disk → IsAlong (bodies_of pages) l.lo l.hi l.fn.list.items n l.from → 1 ≤ n
      → RangesOn (bodies_of pages) l.lo l.hi l.list.items n l.fn.writer.pool.gets l.left l.number l.writer.pool.gets;
  quiet : (set : ℕ → Bool) → HoldsOn l.lo l.fn.writer.pool set → (1 ≤ l.from → set l.from ≡ true) → IsQuiet l.fn.writer l.fn.disk l.writer l.disk × (1 ≤ l.number → set l.number ≡ true);
}

abbrev pub decreases-loop-number : goal.decreases-loop-number
decreases-loop-number g l = l.left
