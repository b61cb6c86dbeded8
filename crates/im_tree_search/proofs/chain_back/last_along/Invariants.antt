use Rattle.std.proofs.Common.{◌≡◌, ◌≤◌, ℕ, Bool, true, None}
use Rattle.im_page_writer.specs.Outcome.{AllPages, Reads}
use Rattle.im_tree_search.specs.Backward.{ComesBack, GoesBack}
use Rattle.im_tree_search.specs.HeldPages.{HoldsBack, IsQuiet}
use Rattle.im_tree_search.specs.Levels.{bodies_of}
use Rattle.im_tree_search.specs.Sights.{HasTreeBut}
use Rattle.im_tree_search.proofs.chain_back.last_along.Given as goal

abbrev pub invariant-loop-number : goal.invariant-loop-number
invariant-loop-number g l = record {
  outcome : Reads g.D.Disk l.fn.writer l.fn.disk l.writer l.disk None;
  kept : (pages : AllPages) → HasTreeBut g.D.Disk pages l.beside l.fn.writer l.fn.disk → ComesBack (bodies_of pages) l.key l.fn.from → GoesBack (bodies_of pages) l.key l.left l.number;
  quiet : (set : ℕ → Bool) → HoldsBack l.key l.fn.writer.pool set → (1 ≤ l.fn.from → set l.fn.from ≡ true) → IsQuiet l.fn.writer l.fn.disk l.writer l.disk × (1 ≤ l.number → set l.number ≡ true);
}

abbrev pub decreases-loop-number : goal.decreases-loop-number
decreases-loop-number g l = l.left
