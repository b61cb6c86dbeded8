use Rattle.std.proofs.Common.{◌≤◌, vec_capacity}
use Rattle.im_page_pool.proofs.PlaceLemmas.{AreLast}
use Rattle.im_page_pool.proofs.places.all_free.Given as goal

abbrev pub invariant-loop-i : goal.invariant-loop-i
invariant-loop-i l = record {
  all : AreLast l.frames l.i l.free.items;
  room : l.frames ≤ vec_capacity l.free;
}
