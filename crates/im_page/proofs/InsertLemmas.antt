-- A page with one cell and one slot more.
use Rattle.std.proofs.Common.{◌≡◌, ◌≢◌, ◌⊎◌, ℕ, ◌+◌, ◌-◌, ◌*◌, ◌<◌, ◌≤◌, Bool, List, length, insert, slice_index, sum_by, sym, ap, ap₂, ◌∙◌, refl, ⊎_elim, inl, inr, subst, arith}
use Rattle.std.proofs.lemmas.Bool.{cases_lt}
use Rattle.std.proofs.lemmas.List.Sums.{sum_by-insert}
use Rattle.im_theory_page.specs.Number.{SameOutside}
use Rattle.im_theory_page.specs.Entry.{no_entry, width, size}
use Rattle.im_base_types.specs.Pages.{Entry}
use Rattle.im_theory_page.specs.Form.{count_of, start_of, slot_at, cell_size, key_from, entry_from, entries_of, KeysRise, CellsAreApart, IsPacked}
use Rattle.im_theory_page.specs.Found.{Parts}
use Rattle.im_page.specs.Edit.{AddsSlot}
use Rattle.im_page.proofs.CellLemmas.{SameBytes, same_entry}
use Rattle.im_page.proofs.ListLemmas.{made, made_insert}

-- What an insertion starts from: a cell written just below the others, and then a slot for it.
pub record Inserted (leaf : Bool) (old mid new : List ℕ) (i start : ℕ) (e : Entry) : Type 0 where
  pub packed : IsPacked leaf old
  pub place : i ≤ count_of old
  pub room : 32 + 2 * count_of old + 2 ≤ start
  pub sized : start + size leaf e ≡ start_of old
  pub keyed : 1 ≤ length e.0
  pub wrote : slice_index mid start ≡ length e.0
  pub entry : entry_from leaf mid start ≡ e
  pub rest : SameOutside old mid start (start_of old)
  pub slot : AddsSlot mid new (count_of old) i start

-- every byte from `lo` on is the same
pub record SameFrom (xs ys : List ℕ) (lo : ℕ) : Type 0 where
  pub same : (k : ℕ) → lo ≤ k → slice_index ys k ≡ slice_index xs k

pub stays : (xs ys : List ℕ) (lo s n : ℕ) → SameFrom xs ys lo → lo ≤ s → SameBytes xs ys s s n
stays xs ys lo s n h le = record { same = λ k lt. h.same (s + k) (omega arith) }

-- the cells that were there stay, byte for byte
pub old_cells : (leaf : Bool) (old mid new : List ℕ) (i start : ℕ) (e : Entry) → Inserted leaf old mid new i start e → SameFrom old new (start_of old)
old_cells leaf old mid new i start e h =
    record { same = λ k le. h.slot.above k (omega (arith, h.packed.slots, h.room, h.sized)) ∙ h.rest.above k le }

-- the new cell stays as it was written
pub new_cell : (leaf : Bool) (old mid new : List ℕ) (i start : ℕ) (e : Entry) → Inserted leaf old mid new i start e → SameFrom mid new start
new_cell leaf old mid new i start e h = record { same = λ k le. h.slot.above k (omega (arith, h.room)) }

-- the slots and cell sizes after the insertion, in terms of those before
pub old_slot : (leaf : Bool) (old mid new : List ℕ) (i start : ℕ) (e : Entry) → Inserted leaf old mid new i start e
    → (j : ℕ) → j < count_of old → slot_at mid j ≡ slot_at old j
old_slot leaf old mid new i start e h j lt =
    ap₂ (λ a b. a * 256 + b) (h.rest.below (32 + 2 * j) (omega (arith, h.room))) (h.rest.below (32 + 2 * j + 1) (omega (arith, h.room)))

-- slot j of the new page is slot m of the old one, and its cell is the same
pub record IsOldSlot (leaf : Bool) (old new : List ℕ) (i j from : ℕ) : Type 0 where
  pub within : from < count_of old
  pub slot : slot_at new j ≡ slot_at old from
  pub size : cell_size leaf new (slot_at new j) ≡ cell_size leaf old (slot_at old from)
  pub len : slice_index new (slot_at new j) ≡ slice_index old (slot_at old from)
  pub entry : entry_from leaf new (slot_at new j) ≡ entry_from leaf old (slot_at old from)
  pub order : ((j < i) × (from ≡ j)) ⊎ ((i < j) × (from + 1 ≡ j))

-- the cell of an old slot, wherever that slot now stands
pub kept_cell : (leaf : Bool) (old mid new : List ℕ) (i start : ℕ) (e : Entry) → Inserted leaf old mid new i start e
    → (j m : ℕ) → m < count_of old → slot_at new j ≡ slot_at old m → ((j < i) × (m ≡ j)) ⊎ ((i < j) × (m + 1 ≡ j)) → IsOldSlot leaf old new i j m
kept_cell leaf old mid new i start e h j m lt eq order =
    let s : ℕ = slot_at old m in
    let low : start_of old ≤ s = h.packed.low m lt in
    let high : s + cell_size leaf old s ≤ 4096 = h.packed.high m lt in
    let same = old_cells leaf old mid new i start e h in
    let len : slice_index new (slot_at new j) ≡ slice_index old s = ap (slice_index new) eq ∙ same.same s low in
    record {
      within = lt;
      slot = eq;
      size = ap (λ n. 1 + n + width leaf) len;
      len = len;
      entry = ap (entry_from leaf new) eq
          ∙ same_entry leaf old new s s (stays old new (start_of old) s (cell_size leaf old s) same low)
          (omega (arith, h.packed.len)) (omega (arith, h.packed.len, h.rest.len, h.slot.len));
      order = order;
    }

-- each slot of the new page is the new one or an old one
pub slot_of : (leaf : Bool) (old mid new : List ℕ) (i start : ℕ) (e : Entry) → Inserted leaf old mid new i start e
    → (j : ℕ) → j < count_of new → (j ≡ i) ⊎ ((m : ℕ) × IsOldSlot leaf old new i j m)
slot_of leaf old mid new i start e h j lt =
    let n : j < count_of old + 1 = omega (arith, h.slot.counted) in
    ⊎_elim
    (λ (b : j < i). let m : j < count_of old = omega (arith, h.place) in
    inr (j, kept_cell leaf old mid new i start e h j j m (h.slot.below j b ∙ old_slot leaf old mid new i start e h j m) (inl (b, refl))))
    (λ (b : i ≤ j). ⊎_elim
    (λ (a : i < j).
    let m : j - 1 < count_of old = omega arith in
    let is : j - 1 + 1 ≡ j = omega arith in
    let moved : slot_at new (j - 1 + 1) ≡ slot_at mid (j - 1) = h.slot.moved (j - 1) (omega arith) m in
    inr (j - 1, kept_cell leaf old mid new i start e h j (j - 1) m (ap (slot_at new) (sym is) ∙ moved ∙ old_slot leaf old mid new i start e h (j - 1) m) (inr (a, is))))
    (λ (a : j ≤ i). inl (omega arith))
    (cases_lt i j))
    (cases_lt j i)

-- the slot in the new page of the new cell, and its entry
pub new_slot : (leaf : Bool) (old mid new : List ℕ) (i start : ℕ) (e : Entry) → Inserted leaf old mid new i start e
    → (slot_at new i ≡ start) × (slice_index new (slot_at new i) ≡ length e.0) × (entry_from leaf new (slot_at new i) ≡ e)
new_slot leaf old mid new i start e h =
    let same = new_cell leaf old mid new i start e h in
    let len : slice_index new start ≡ length e.0 = same.same start (omega arith) ∙ h.wrote in
    let fits : start + cell_size leaf mid start ≤ 4096 = omega (arith, h.sized, h.packed.start, h.wrote) in
    let entry : entry_from leaf new start ≡ e =
    same_entry leaf mid new start start (stays mid new start start (cell_size leaf mid start) same (omega arith))
    (omega (arith, h.packed.len, h.rest.len)) (omega (arith, h.packed.len, h.rest.len, h.slot.len))
    ∙ h.entry in
    (h.slot.added, ap (slice_index new) h.slot.added ∙ len, ap (entry_from leaf new) h.slot.added ∙ entry)

-- the entries are the old ones with the new one among them
pub entries_inserted : (leaf : Bool) (old mid new : List ℕ) (i start : ℕ) (e : Entry) → Inserted leaf old mid new i start e
    → entries_of leaf new ≡ insert (entries_of leaf old) i e
unfolding entries_of
entries_inserted leaf old mid new i start e h =
    ap (made (λ j. entry_from leaf new (slot_at new j))) h.slot.counted
    ∙ made_insert no_entry (λ j. entry_from leaf old (slot_at old j)) (λ j. entry_from leaf new (slot_at new j)) (count_of old) i e h.place
    (λ j lt. let m : j < count_of old = omega (arith, h.place) in
    (kept_cell leaf old mid new i start e h j j m (h.slot.below j lt ∙ old_slot leaf old mid new i start e h j m) (inl (lt, refl))).entry)
    (new_slot leaf old mid new i start e h).2
    (λ j le lt. (kept_cell leaf old mid new i start e h (j + 1) j lt (h.slot.moved j le lt ∙ old_slot leaf old mid new i start e h j lt) (inr (omega arith, refl))).entry)

-- the cells of the new page lie in their area, with keys
pub new_low : (leaf : Bool) (old mid new : List ℕ) (i start : ℕ) (e : Entry) → Inserted leaf old mid new i start e
    → (j : ℕ) → j < count_of new → start ≤ slot_at new j
new_low leaf old mid new i start e h j lt =
    ⊎_elim (λ (b : j ≡ i). omega (arith, ap (slot_at new) b, h.slot.added))
    (λ (b : (m : ℕ) × IsOldSlot leaf old new i j m). omega (arith, b.1.slot, h.packed.low b.0 b.1.within, h.sized))
    (slot_of leaf old mid new i start e h j lt)

pub new_high : (leaf : Bool) (old mid new : List ℕ) (i start : ℕ) (e : Entry) → Inserted leaf old mid new i start e
    → (j : ℕ) → j < count_of new → slot_at new j + cell_size leaf new (slot_at new j) ≤ 4096
new_high leaf old mid new i start e h j lt =
    ⊎_elim
    (λ (b : j ≡ i). let n = new_slot leaf old mid new i start e h in
    subst (λ m. slot_at new m + cell_size leaf new (slot_at new m) ≤ 4096) (sym b) (omega (arith, n.0, n.1, h.sized, h.packed.start)))
    (λ (b : (m : ℕ) × IsOldSlot leaf old new i j m). omega (arith, b.1.slot, b.1.size, h.packed.high b.0 b.1.within))
    (slot_of leaf old mid new i start e h j lt)

pub new_keyed : (leaf : Bool) (old mid new : List ℕ) (i start : ℕ) (e : Entry) → Inserted leaf old mid new i start e
    → (j : ℕ) → j < count_of new → 1 ≤ slice_index new (slot_at new j)
new_keyed leaf old mid new i start e h j lt =
    ⊎_elim
    (λ (b : j ≡ i). let n = new_slot leaf old mid new i start e h in
    subst (λ m. 1 ≤ slice_index new (slot_at new m)) (sym b) (omega (arith, n.1, h.keyed)))
    (λ (b : (m : ℕ) × IsOldSlot leaf old new i j m). omega (arith, b.1.len, h.packed.keyed b.0 b.1.within))
    (slot_of leaf old mid new i start e h j lt)

-- two places that come from one place are one
pub from_order : (i a b m n : ℕ) → ((a < i) × (m ≡ a)) ⊎ ((i < a) × (m + 1 ≡ a)) → ((b < i) × (n ≡ b)) ⊎ ((i < b) × (n + 1 ≡ b)) → m ≡ n → a ≡ b
from_order i a b m n x y e = omega arith

-- a cell that lies below the others shares no byte with them
pub new_apart : (leaf : Bool) (old mid new : List ℕ) (i start : ℕ) (e : Entry) → Inserted leaf old mid new i start e → CellsAreApart leaf new
new_apart leaf old mid new i start e h a b la lb ne =
    let n = new_slot leaf old mid new i start e h in
    let top : slot_at new i + cell_size leaf new (slot_at new i) ≡ start_of old = omega (arith, n.0, n.1, h.sized) in
    ⊎_elim
    (λ (x : a ≡ i). ⊎_elim (λ (y : b ≡ i). absurd (ne (x ∙ sym y)))
    (λ (y : (m : ℕ) × IsOldSlot leaf old new i b m).
    inl (subst (λ m. slot_at new m + cell_size leaf new (slot_at new m) ≤ slot_at new b) (sym x) (omega (arith, top, y.1.slot, h.packed.low y.0 y.1.within))))
    (slot_of leaf old mid new i start e h b lb))
    (λ (x : (m : ℕ) × IsOldSlot leaf old new i a m). ⊎_elim
    (λ (y : b ≡ i).
    inr (subst (λ m. slot_at new m + cell_size leaf new (slot_at new m) ≤ slot_at new a) (sym y) (omega (arith, top, x.1.slot, h.packed.low x.0 x.1.within))))
    (λ (y : (m : ℕ) × IsOldSlot leaf old new i b m).
    let other : x.0 ≢ y.0 = λ same. ne (from_order i a b x.0 y.0 x.1.order y.1.order same) in
    ⊎_elim (λ (z : slot_at old x.0 + cell_size leaf old (slot_at old x.0) ≤ slot_at old y.0). inl (omega (arith, x.1.slot, x.1.size, y.1.slot)))
    (λ (z : slot_at old y.0 + cell_size leaf old (slot_at old y.0) ≤ slot_at old x.0). inr (omega (arith, x.1.slot, y.1.size, y.1.slot)))
    (h.packed.apart x.0 y.0 x.1.within y.1.within other))
    (slot_of leaf old mid new i start e h b lb))
    (slot_of leaf old mid new i start e h a la)

-- the keys still rise
pub new_rises : (leaf : Bool) (old mid new : List ℕ) (i start : ℕ) (e : Entry) → Inserted leaf old mid new i start e → Parts old e.0 i i → KeysRise new
unfolding entry_from
new_rises leaf old mid new i start e h p a b ab lb =
    let n = new_slot leaf old mid new i start e h in
    let is : key_from new (slot_at new i) ≡ e.0 = ap (λ (x : Entry). x.0) n.2 in
    ⊎_elim
    (λ (x : a ≡ i). ⊎_elim (λ (y : b ≡ i). absurd (omega arith))
    (λ (y : (m : ℕ) × IsOldSlot leaf old new i b m).
    let from : i ≤ y.0 = omega (arith, y.1.order) in
    let key : key_from new (slot_at new b) ≡ key_from old (slot_at old y.0) = ap (λ (x : Entry). x.0) y.1.entry in
    rw (x, is, key) (p.above y.0 from y.1.within))
    (slot_of leaf old mid new i start e h b lb))
    (λ (x : (m : ℕ) × IsOldSlot leaf old new i a m).
    let left : key_from new (slot_at new a) ≡ key_from old (slot_at old x.0) = ap (λ (x : Entry). x.0) x.1.entry in
    ⊎_elim
    (λ (y : b ≡ i).
    let below : x.0 < i = omega (arith, x.1.order) in
    rw (y, is, left) (p.below x.0 below))
    (λ (y : (m : ℕ) × IsOldSlot leaf old new i b m).
    let key : key_from new (slot_at new b) ≡ key_from old (slot_at old y.0) = ap (λ (x : Entry). x.0) y.1.entry in
    rw (left, key) (h.packed.rises x.0 y.0 (omega (arith, x.1.order, y.1.order)) y.1.within))
    (slot_of leaf old mid new i start e h b lb))
    (slot_of leaf old mid new i start e h a (omega arith))

pub packed_inserted : (leaf : Bool) (old mid new : List ℕ) (i start : ℕ) (e : Entry) → Inserted leaf old mid new i start e → Parts old e.0 i i → IsPacked leaf new
packed_inserted leaf old mid new i start e h p =
    record {
      len = h.slot.len ∙ h.rest.len ∙ h.packed.len;
      slots = omega (arith, h.slot.counted, h.slot.started, h.room);
      start = omega (arith, h.slot.started, h.sized, h.packed.start);
      low = λ j lt. omega (arith, h.slot.started, new_low leaf old mid new i start e h j lt);
      high = new_high leaf old mid new i start e h;
      keyed = new_keyed leaf old mid new i start e h;
      apart = new_apart leaf old mid new i start e h;
      full = let sum = ap (sum_by (size leaf)) (entries_inserted leaf old mid new i start e h) ∙ sum_by-insert (size leaf) (entries_of leaf old) i e in
          omega (arith, sum, h.slot.started, h.sized, h.packed.full);
      clear = λ k low high. h.slot.above k (omega (arith, h.slot.counted)) ∙ h.rest.below k (omega (arith, h.slot.started))
          ∙ h.packed.clear k (omega (arith, h.slot.counted)) (omega (arith, h.slot.started, h.sized));
      rises = new_rises leaf old mid new i start e h p;
    }

-- what the calls of an insertion give
pub as_inserted : (leaf : Bool) (old mid new : List ℕ) (i count start len : ℕ) (key : List ℕ) (value : ℕ)
    → count ≡ count_of old → start ≡ start_of old → len ≡ 1 + length key + width leaf → IsPacked leaf old → i ≤ count_of old → 1 ≤ length key
    → 32 + 2 * count_of old + 2 + (1 + length key + width leaf) ≤ start_of old
    → slice_index mid (start - len) ≡ length key → entry_from leaf mid (start - len) ≡ (key, value)
    → SameOutside old mid (start - len) (start - len + 1 + length key + width leaf) → AddsSlot mid new count i (start - len)
    → Inserted leaf old mid new i (start - len) ((key, value))
as_inserted leaf old mid new i count start len key value counted started sized packed place keyed room wrote entry rest slot =
    let to : start - len + 1 + length key + width leaf ≡ start_of old = omega arith in
    record {
      packed = packed;
      place = place;
      room = omega arith;
      sized = omega arith;
      keyed = keyed;
      wrote = wrote;
      entry = entry;
      rest = rw to at rest;
      slot = rw counted at slot;
    }
