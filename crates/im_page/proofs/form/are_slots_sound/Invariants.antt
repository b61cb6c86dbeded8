use Rattle.std.proofs.Common.{ℕ, ◌+◌, ◌-◌, ◌<◌, ◌≤◌, ◌≡◌, slice_index}
use Rattle.im_base_types.specs.Keys.{IsBelow}
use Rattle.im_theory_page.specs.Form.{slot_at, cell_size, key_from}
use Rattle.im_page.specs.Sound.{AreEnds, IsTopOf}
use Rattle.im_page.proofs.form.are_slots_sound.Given as goal

abbrev pub invariant-loop-i : goal.invariant-loop-i
invariant-loop-i l = record {
  ends : AreEnds l.leaf l.bytes l.flags l.i;
  below : (k : ℕ) → 0 < k → k < l.i → IsBelow (key_from l.bytes (slot_at l.bytes (k - 1))) (key_from l.bytes (slot_at l.bytes k));
  keyed : (k : ℕ) → k < l.i → 1 ≤ slice_index l.bytes (slot_at l.bytes k);
  high : (k : ℕ) → k < l.i → slot_at l.bytes k + cell_size l.leaf l.bytes (slot_at l.bytes k) ≤ 4096;
  before : 0 < l.i → l.before ≡ slot_at l.bytes (l.i - 1);
  fits : 0 < l.i → l.before + 1 + slice_index l.bytes l.before ≤ 4096;
  top : 0 < l.i → IsTopOf (key_from l.bytes l.before) l.top;
}
