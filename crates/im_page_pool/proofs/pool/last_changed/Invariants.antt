use Rattle.std.proofs.Common.{◌≡◌, ℕ, ◌<◌, Some, length, slice_get}
use Rattle.im_page_pool.specs.Inside.{last_marked}
use Rattle.im_page_pool.specs.Places.{taken_in}
use Rattle.im_page_pool.proofs.pool.last_changed.Given as goal

abbrev pub invariant-loop-place : goal.invariant-loop-place
invariant-loop-place l = record {
  same : last_marked l.frames l.places.taken ≡ last_marked l.frames (taken_in l.place-iterator.iter);
  within : (i : ℕ) (e : ℕ × ℕ) → slice_get (taken_in l.place-iterator.iter) i ≡ Some e → e.1 < length l.frames;
}
