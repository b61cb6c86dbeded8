use Rattle.std.proofs.Common.{◌≡◌, ◌≢◌, ℕ, ◌<◌, ◌≤◌, true, false, slice_index}
use Rattle.im_page.proofs.form.is_zero.Given as goal

-- whether a byte before k is set
abbrev pub invariant-loop-k : goal.invariant-loop-k
invariant-loop-k l = record {
  none : l.any ≡ false → (k : ℕ) → l.from ≤ k → k < l.k → slice_index l.bytes k ≡ 0;
  some : l.any ≡ true → (k : ℕ) × (l.from ≤ k) × (k < l.k) × (slice_index l.bytes k ≢ 0);
}
