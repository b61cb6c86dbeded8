use Rattle.std.proofs.Common.{ℕ, ◌+◌, ◌-◌, ◌<◌, ◌≤◌, ◌≡◌, slice_index}
use Rattle.im_base_types.specs.Keys.{IsBelow}
use Rattle.im_theory_page.specs.Form.{slot_at, key_from}
use Rattle.im_page.specs.Sound.{ArePacked, IsTopOf}
use Rattle.im_page.proofs.form.is_run.Given as goal

abbrev pub invariant-loop-i : goal.invariant-loop-i
invariant-loop-i l = record {
  run : ArePacked l.leaf l.bytes l.i l.before;
  within : l.before ≤ 4096;
  below : (k : ℕ) → 0 < k → k < l.i → IsBelow (key_from l.bytes (slot_at l.bytes (k - 1))) (key_from l.bytes (slot_at l.bytes k));
  keyed : (k : ℕ) → k < l.i → 1 ≤ slice_index l.bytes (slot_at l.bytes k);
  before : 0 < l.i → l.before ≡ slot_at l.bytes (l.i - 1);
  fits : 0 < l.i → l.before + 1 + slice_index l.bytes l.before ≤ 4096;
  top : 0 < l.i → IsTopOf (key_from l.bytes l.before) l.top;
}
