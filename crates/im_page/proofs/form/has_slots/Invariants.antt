use Rattle.std.proofs.Common.{◌≡◌, ℕ, ◌<◌, true, false}
use Rattle.im_theory_page.specs.Form.{slot_at}
use Rattle.im_page.specs.Sound.{is_taken}
use Rattle.im_page.proofs.form.has_slots.Given as goal

-- whether a slot before i has no flag
abbrev pub invariant-loop-i : goal.invariant-loop-i
invariant-loop-i l = record {
  none : l.missing ≡ false → (k : ℕ) → k < l.i → is_taken l.flags (slot_at l.bytes k) ≡ true;
  some : l.missing ≡ true → (k : ℕ) × (k < l.i) × (is_taken l.flags (slot_at l.bytes k) ≡ false);
}
