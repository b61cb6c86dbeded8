use Rattle.std.proofs.Common.{◌≡◌, ℕ, Bool, false, true, None}
use Rattle.im_page_writer.specs.Outcome.{AllPages, Reads}
use Rattle.im_tree_search.specs.Found.{Descends}
use Rattle.im_tree_search.specs.HeldPages.{HoldsWay, IsQuiet}
use Rattle.im_tree_search.specs.Sights.{HasTreeBut, IsSettled}
use Rattle.im_tree_search.proofs.descent.leaf_beside.Given as goal

abbrev pub invariant-loop-level : goal.invariant-loop-level
invariant-loop-level g l = record {
  outcome : Reads g.D.Disk l.fn.writer l.fn.disk l.writer l.disk None;
  settled : IsSettled l.level l.beside l.writer.pool l.frame;
  kept : (pages : AllPages) → HasTreeBut g.D.Disk pages l.beside l.fn.writer l.fn.disk → Descends pages l.key l.level l.frame.number l.fn.writer.pool.gets l.writer.pool;
  quiet : (set : ℕ → Bool) → l.fn.writer.failed ≡ false → HoldsWay l.key l.fn.writer.pool set → IsQuiet l.fn.writer l.fn.disk l.writer l.disk × (set l.frame.number ≡ true);
}

abbrev pub decreases-loop-level : goal.decreases-loop-level
decreases-loop-level g l = l.level
