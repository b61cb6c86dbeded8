use Rattle.std.proofs.Common.{◌≡◌}
use Rattle.im_page_pool.specs.Places.{AreUnused}
use Rattle.im_page_pool.proofs.places.all_unused.Given as goal

abbrev pub invariant-loop-i : goal.invariant-loop-i
invariant-loop-i l = record {
  unused : AreUnused l.i l.by_use.entries;
  cap : l.by_use.cap ≡ l.frames;
}
