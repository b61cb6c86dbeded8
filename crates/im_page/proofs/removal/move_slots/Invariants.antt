use Rattle.std.proofs.Common.{◌≡◌, ℕ, ◌+◌, ◌*◌, ◌<◌, ◌≤◌, slice_index}
use Rattle.im_theory_page.specs.Form.{slot_at}
use Rattle.im_page.specs.Edit.{moved_up}
use Rattle.im_page.proofs.removal.move_slots.Given as goal

abbrev pub invariant-loop-j : goal.invariant-loop-j
invariant-loop-j l = record {
  head : (k : ℕ) → k < 32 → slice_index l.bytes k ≡ slice_index l.fn.bytes k;
  below : (j : ℕ) → j < l.j → slot_at l.bytes j ≡ moved_up l.at l.size (slot_at l.fn.bytes j);
  rest : (k : ℕ) → 32 + 2 * l.j ≤ k → slice_index l.bytes k ≡ slice_index l.fn.bytes k;
}

abbrev pub invariant-loop-j-2 : goal.invariant-loop-j-2
invariant-loop-j-2 l = record {
  head : (k : ℕ) → k < 32 → slice_index l.bytes k ≡ slice_index l.fn.bytes k;
  below : (j : ℕ) → j < l.i → slot_at l.bytes j ≡ moved_up l.at l.size (slot_at l.fn.bytes j);
  above : (j : ℕ) → l.i ≤ j → j < l.j → slot_at l.bytes j ≡ moved_up l.at l.size (slot_at l.fn.bytes (j + 1));
  rest : (k : ℕ) → 32 + 2 * l.j ≤ k → slice_index l.bytes k ≡ slice_index l.fn.bytes k;
}
