use Rattle.std.proofs.Common.{◌≡◌, ◌⊎◌, ℕ, ◌%◌, ◌<◌, ◌≤◌, length, get_or}
use Rattle.im_base_model_disk.proofs.left.fill_range.Given as goal

abbrev pub invariant-loop-place : goal.invariant-loop-place
invariant-loop-place l = record {
  long : length l.bytes ≡ length l.initial.bytes;
  outside : (k : ℕ) → k < length l.bytes → (k < l.at) ⊎ (l.place ≤ k) → get_or l.bytes k 0 ≡ get_or l.initial.bytes k 0;
  inside : (k : ℕ) → k < length l.bytes → l.at ≤ k → k < l.place → get_or l.bytes k 0 ≡ get_or l.pattern (k % length l.pattern) 0;
}
