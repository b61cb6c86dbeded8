use Rattle.std.proofs.Common.{ℕ, ◌<◌}
use Rattle.im_base_sum_disk.specs.Leaves.{ShowsThere}
use Rattle.im_base_sum_disk.proofs.shown.shows_no_more.Given as goal

abbrev pub invariant-loop-place : goal.invariant-loop-place
invariant-loop-place l = record {
  below : (p : ℕ) → p < l.place → ShowsThere l.some l.other p;
}
