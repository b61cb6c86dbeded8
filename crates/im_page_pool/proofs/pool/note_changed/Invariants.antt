use Rattle.std.proofs.Common.{◌≡◌, ℕ, ◌-◌, ◌<◌, ◌≤◌, ◌++◌, Some, length, take, reverse, slice_get}
use Rattle.im_page_pool.specs.Inside.{marked_numbers}
use Rattle.im_page_pool.specs.Places.{taken_in}
use Rattle.im_page_pool.proofs.pool.note_changed.Given as goal

abbrev pub invariant-loop-place : goal.invariant-loop-place
invariant-loop-place l = record {
  noted : l.noted ≤ length l.numbers;
  passed : l.passed ≤ l.among;
  same : take (length l.numbers) (marked_numbers l.frames (take l.among (reverse l.places.taken)))
      ≡ take l.noted l.numbers ++ take (length l.numbers - l.noted) (marked_numbers l.frames (take (l.among - l.passed) (reverse (taken_in l.place-iterator.iter))));
  within : (i : ℕ) (e : ℕ × ℕ) → slice_get (taken_in l.place-iterator.iter) i ≡ Some e → e.1 < length l.frames;
}
