use Rattle.std.proofs.Common.{◌≡◌, ◌≤◌, ◌<◌, ◌+◌, ◌-◌, ℕ, length, vec_capacity, vec_len}
use Rattle.im_page_pool.specs.Frames.{frames_in}
use Rattle.im_page_pool.proofs.frames.reach.Given as goal

abbrev pub invariant-loop-slots : goal.invariant-loop-slots
invariant-loop-slots l = record {
  same : (n : ℕ) → length l.initial.slots.items ≤ n → l.place < n → frames_in l.slots.items n ≡ frames_in l.initial.slots.items n;
  within : (n : ℕ) → length l.initial.slots.items ≤ n → l.place < n → length l.slots.items ≤ n;
  capacity : vec_capacity l.slots ≡ vec_capacity l.initial.slots;
}

abbrev pub decreases-loop-slots : goal.decreases-loop-slots
decreases-loop-slots l = (l.place + 1) - vec_len l.slots
