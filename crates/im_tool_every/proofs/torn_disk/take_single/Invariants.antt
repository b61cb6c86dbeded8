use Rattle.std.proofs.Common.{◌≡◌, ◌⊎◌, ℕ, ◌<◌, length, get_or}
use Rattle.im_tool_every.proofs.torn_disk.take_single.Given as goal

abbrev pub invariant-loop-place : goal.invariant-loop-place
invariant-loop-place l = record {
  long : length l.bytes ≡ length l.initial.bytes;
  each : (k : ℕ) → k < length l.bytes → (get_or l.bytes k 0 ≡ get_or l.initial.bytes k 0) ⊎ (get_or l.bytes k 0 ≡ get_or l.others k 0);
}
