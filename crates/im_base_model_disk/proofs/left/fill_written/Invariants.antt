use Rattle.std.proofs.Common.{◌≡◌, ℕ, ◌%◌, ◌<◌, length, get_or}
use Rattle.im_base_model_disk.proofs.Fills.{ApartBelow}
use Rattle.im_base_model_disk.proofs.left.fill_written.Given as goal

abbrev pub invariant-loop-at : goal.invariant-loop-at
invariant-loop-at l = record {
  long : length l.bytes ≡ length l.initial.bytes;
  outside : (i : ℕ) → i < length l.bytes → ApartBelow l.writes l.at-index i → get_or l.bytes i 0 ≡ get_or l.initial.bytes i 0;
  inside : (i : ℕ) → i < length l.bytes → ¬ (ApartBelow l.writes l.at-index i) → get_or l.bytes i 0 ≡ get_or l.pattern (i % length l.pattern) 0;
}
