-- A page with one cell and one slot fewer.
use Rattle.std.proofs.Common.{◌≡◌, ◌≢◌, ◌⊎◌, ℕ, ◌+◌, ◌*◌, ◌<◌, ◌≤◌, Bool, List, length, remove, slice_index, sum_by, sym, ap, ap₂, ◌∙◌, refl, ⊎_elim, inl, inr, arith, if◌then◌else◌}
use Rattle.std.proofs.lemmas.Bool.{cases_lt, lt-ltb, le-ltb}
use Rattle.std.proofs.lemmas.List.Sums.{sum_by-remove}
use Rattle.im_theory_page.specs.Entry.{no_entry, entry_at, width, size}
use Rattle.im_base_types.specs.Pages.{Entry}
use Rattle.im_theory_page.specs.Form.{count_of, start_of, slot_at, cell_size, key_from, entry_from, entries_of, KeysRise, CellsAreApart, IsPacked}
use Rattle.im_page.specs.Edit.{moved_up, MovesCells, DropsSlot}
use Rattle.im_page.proofs.CellLemmas.{SameBytes, same_entry, same_at}
use Rattle.im_page.proofs.ListLemmas.{made, made_remove}
use Rattle.im_theory_page.proofs.EntryLemmas.{length-entries_of, entry_at-entries_of, key_len}

-- What a removal does: the cells below the one that goes move up, and then its slot goes.
pub record Removed (leaf : Bool) (old mid new : List ℕ) (i at n : ℕ) : Type 0 where
  pub packed : IsPacked leaf old
  pub place : i < count_of old
  pub is_at : at ≡ slot_at old i
  pub is_size : n ≡ cell_size leaf old (slot_at old i)
  pub cells : MovesCells old mid (start_of old) at n
  pub slots : DropsSlot mid new (count_of old) i (start_of old + n) at n

pub moved_below : (at n s : ℕ) → s < at → moved_up at n s ≡ s + n
moved_below at n s lt = ap (λ b. if b then s + n else s) (lt-ltb s at lt)

pub moved_above : (at n s : ℕ) → at ≤ s → moved_up at n s ≡ s
moved_above at n s le = ap (λ b. if b then s + n else s) (le-ltb s at le)

-- what is known of the bounds
pub record Bounds (leaf : Bool) (old : List ℕ) (i at n : ℕ) : Type 0 where
  pub low : start_of old ≤ at
  pub high : at + n ≤ 4096
  pub slots : 32 + 2 * count_of old ≤ start_of old
  pub some : 1 ≤ n

pub bounds : (leaf : Bool) (old mid new : List ℕ) (i at n : ℕ) → Removed leaf old mid new i at n → Bounds leaf old i at n
bounds leaf old mid new i at n h = record {
  low = omega (arith, h.packed.low i h.place, h.is_at);
  high = omega (arith, h.packed.high i h.place, h.is_at, h.is_size);
  slots = h.packed.slots;
  some = omega (arith, h.is_size);
}

-- a slot of the old page other than the one that goes is below its cell or above it
pub side : (leaf : Bool) (old mid new : List ℕ) (i at n : ℕ) → Removed leaf old mid new i at n → (m : ℕ) → m < count_of old → m ≢ i
    → (slot_at old m + cell_size leaf old (slot_at old m) ≤ at) ⊎ (at + n ≤ slot_at old m)
side leaf old mid new i at n h m lt ne =
    ⊎_elim (λ (x : slot_at old m + cell_size leaf old (slot_at old m) ≤ slot_at old i). inl (omega (arith, h.is_at)))
    (λ (x : slot_at old i + cell_size leaf old (slot_at old i) ≤ slot_at old m). inr (omega (arith, h.is_at, h.is_size)))
    (h.packed.apart m i lt h.place ne)

-- the cell of slot m, where it lies now
pub record IsMoved (leaf : Bool) (old new : List ℕ) (at n s t : ℕ) : Type 0 where
  pub entry : entry_from leaf new t ≡ entry_from leaf old s
  pub size : cell_size leaf new t ≡ cell_size leaf old s
  pub len : slice_index new t ≡ slice_index old s
  pub place : ((s + cell_size leaf old s ≤ at) × (t ≡ s + n)) ⊎ ((at + n ≤ s) × (t ≡ s))

pub moved_same : (leaf : Bool) (old new : List ℕ) (at n s t : ℕ) → SameBytes old new s t (cell_size leaf old s) → s + cell_size leaf old s ≤ length old
    → t + cell_size leaf old s ≤ length new → ((s + cell_size leaf old s ≤ at) × (t ≡ s + n)) ⊎ ((at + n ≤ s) × (t ≡ s)) → IsMoved leaf old new at n s t
moved_same leaf old new at n s t same in_old in_new place =
    let len : slice_index new t ≡ slice_index old s = same_at old new s t (cell_size leaf old s) s t same (omega arith) (omega arith) (omega arith) in
    record { entry = same_entry leaf old new s t same in_old in_new; size = ap (λ k. 1 + k + width leaf) len; len = len; place = place }

pub moved_cell : (leaf : Bool) (old mid new : List ℕ) (i at n : ℕ) → Removed leaf old mid new i at n → (m : ℕ) → m < count_of old → m ≢ i
    → IsMoved leaf old new at n (slot_at old m) (moved_up at n (slot_at old m))
moved_cell leaf old mid new i at n h m lt ne =
    let s : ℕ = slot_at old m in
    let c : ℕ = cell_size leaf old s in
    let b = bounds leaf old mid new i at n h in
    let low : start_of old ≤ s = h.packed.low m lt in
    let high : s + c ≤ 4096 = h.packed.high m lt in
    let len : length new ≡ 4096 = h.slots.len ∙ h.cells.len ∙ h.packed.len in
    ⊎_elim
    (λ (x : s + c ≤ at).
    let up : moved_up at n s ≡ s + n = moved_below at n s (omega arith) in
    let same : SameBytes old new s (s + n) c = record {
      same = λ k kc.
          let e : s + k + n ≡ s + n + k = omega arith in
          ap (slice_index new) (sym e) ∙ h.slots.rest (s + k + n) (omega (arith, b.slots)) ∙ h.cells.moved (s + k) (omega arith) (omega arith);
    } in
    rw up (moved_same leaf old new at n s (s + n) same (omega (arith, h.packed.len)) (omega (arith, b.high, len)) (inl (x, refl))))
    (λ (x : at + n ≤ s).
    let up : moved_up at n s ≡ s = moved_above at n s (omega arith) in
    let same : SameBytes old new s s c = record { same = λ k kc. h.slots.rest (s + k) (omega (arith, b.slots)) ∙ h.cells.above (s + k) (omega arith) } in
    rw up (moved_same leaf old new at n s s same (omega (arith, h.packed.len)) (omega (arith, len)) (inr (x, refl))))
    (side leaf old mid new i at n h m lt ne)

-- slot j of the new page is slot m of the old one, moved
pub record ComesFrom (leaf : Bool) (old new : List ℕ) (i at n j m : ℕ) : Type 0 where
  pub within : m < count_of old
  pub other : m ≢ i
  pub slot : slot_at new j ≡ moved_up at n (slot_at old m)
  pub order : ((j < i) × (m ≡ j)) ⊎ ((i ≤ j) × (m ≡ j + 1))

pub old_slot : (leaf : Bool) (old mid new : List ℕ) (i at n : ℕ) → Removed leaf old mid new i at n → (m : ℕ) → m < count_of old → slot_at mid m ≡ slot_at old m
old_slot leaf old mid new i at n h m lt =
    ap₂ (λ a b. a * 256 + b) (h.cells.below (32 + 2 * m) (omega (arith, h.packed.slots))) (h.cells.below (32 + 2 * m + 1) (omega (arith, h.packed.slots)))

pub comes_from : (leaf : Bool) (old mid new : List ℕ) (i at n : ℕ) → Removed leaf old mid new i at n → (j : ℕ) → j < count_of new
    → (m : ℕ) × ComesFrom leaf old new i at n j m
comes_from leaf old mid new i at n h j lt =
    let count : j + 1 < count_of old = omega (arith, h.slots.counted) in
    ⊎_elim
    (λ (x : j < i).
    (j, record { within = omega arith; other = λ e. omega arith; slot = h.slots.below j x ∙ ap (moved_up at n) (old_slot leaf old mid new i at n h j (omega arith)); order = inl (x, refl) }))
    (λ (x : i ≤ j).
    (j + 1, record { within = count; other = λ e. omega arith; slot = h.slots.above j x count ∙ ap (moved_up at n) (old_slot leaf old mid new i at n h (j + 1) count); order = inr (x, refl) }))
    (cases_lt j i)

-- the cell of slot j of the new page
pub cell_of : (leaf : Bool) (old mid new : List ℕ) (i at n : ℕ) → Removed leaf old mid new i at n → (j m : ℕ) → ComesFrom leaf old new i at n j m
    → IsMoved leaf old new at n (slot_at old m) (slot_at new j)
cell_of leaf old mid new i at n h j m f = rw f.slot (moved_cell leaf old mid new i at n h m f.within f.other)

pub entries_removed : (leaf : Bool) (old mid new : List ℕ) (i at n : ℕ) → Removed leaf old mid new i at n → entries_of leaf new ≡ remove (entries_of leaf old) i
unfolding entries_of
entries_removed leaf old mid new i at n h =
    made_remove no_entry (λ j. entry_from leaf old (slot_at old j)) (λ j. entry_from leaf new (slot_at new j)) (count_of new) i (omega (arith, h.slots.counted, h.place))
    (λ j lt. let m : j < count_of old = omega (arith, h.place) in
    (cell_of leaf old mid new i at n h j j (record { within = m; other = λ e. omega arith; slot = h.slots.below j lt ∙ ap (moved_up at n) (old_slot leaf old mid new i at n h j m); order = inl (lt, refl) })).entry)
    (λ j le lt. let m : j + 1 < count_of old = omega (arith, h.slots.counted) in
    (cell_of leaf old mid new i at n h j (j + 1) (record { within = m; other = λ e. omega arith; slot = h.slots.above j le m ∙ ap (moved_up at n) (old_slot leaf old mid new i at n h (j + 1) m); order = inr (le, refl) })).entry)
    ∙ ap (λ c. remove (made (λ j. entry_from leaf old (slot_at old j)) c) i) h.slots.counted

pub two_from_one : (i a b m n : ℕ) → ((a < i) × (m ≡ a)) ⊎ ((i ≤ a) × (m ≡ a + 1)) → ((b < i) × (n ≡ b)) ⊎ ((i ≤ b) × (n ≡ b + 1)) → m ≡ n → a ≡ b
two_from_one i a b m n x y e = omega arith

pub still_rise : (leaf : Bool) (old mid new : List ℕ) (i at n : ℕ) → Removed leaf old mid new i at n → KeysRise new
unfolding entry_from
still_rise leaf old mid new i at n h a b ab lb =
    let x = comes_from leaf old mid new i at n h a (omega arith) in
    let y = comes_from leaf old mid new i at n h b lb in
    let left : key_from new (slot_at new a) ≡ key_from old (slot_at old x.0) = ap (λ (e : Entry). e.0) (cell_of leaf old mid new i at n h a x.0 x.1).entry in
    let right : key_from new (slot_at new b) ≡ key_from old (slot_at old y.0) = ap (λ (e : Entry). e.0) (cell_of leaf old mid new i at n h b y.0 y.1).entry in
    rw (left, right) (h.packed.rises x.0 y.0 (omega (arith, x.1.order, y.1.order)) y.1.within)

pub still_apart : (leaf : Bool) (old mid new : List ℕ) (i at n : ℕ) → Removed leaf old mid new i at n → CellsAreApart leaf new
still_apart leaf old mid new i at n h a b la lb ne =
    let x = comes_from leaf old mid new i at n h a la in
    let y = comes_from leaf old mid new i at n h b lb in
    let s = cell_of leaf old mid new i at n h a x.0 x.1 in
    let t = cell_of leaf old mid new i at n h b y.0 y.1 in
    let other : x.0 ≢ y.0 = λ same. ne (two_from_one i a b x.0 y.0 x.1.order y.1.order same) in
    ⊎_elim
    (λ (z : slot_at old x.0 + cell_size leaf old (slot_at old x.0) ≤ slot_at old y.0). inl (omega (arith, s.size, s.place, t.place)))
    (λ (z : slot_at old y.0 + cell_size leaf old (slot_at old y.0) ≤ slot_at old x.0). inr (omega (arith, t.size, s.place, t.place)))
    (h.packed.apart x.0 y.0 x.1.within y.1.within other)

-- the bytes that are no cell's any more are zeros
pub cleared : (leaf : Bool) (old mid new : List ℕ) (i at n : ℕ) → Removed leaf old mid new i at n
    → (k : ℕ) → 32 + 2 * count_of new ≤ k → k < start_of new → slice_index new k ≡ 0
cleared leaf old mid new i at n h k low high =
    let b = bounds leaf old mid new i at n h in
    ⊎_elim
    (λ (x : k < 32 + 2 * count_of old). h.slots.last k (omega (arith, h.slots.counted)) x)
    (λ (x : 32 + 2 * count_of old ≤ k). h.slots.rest k x ∙
    ⊎_elim (λ (y : k < start_of old). h.cells.below k y ∙ h.packed.clear k x y)
    (λ (y : start_of old ≤ k). h.cells.zeros k y (omega (arith, h.slots.started)))
    (cases_lt k (start_of old)))
    (cases_lt k (32 + 2 * count_of old))

-- the cells fill what they filled, less the one that went
pub still_full : (leaf : Bool) (old mid new : List ℕ) (i at n : ℕ) → Removed leaf old mid new i at n
    → start_of old + n + sum_by (size leaf) (entries_of leaf new) ≡ 4096
unfolding entry_from
still_full leaf old mid new i at n h =
    let es = entries_of leaf old in
    let within : i < length es = omega (arith, h.place, length-entries_of leaf old) in
    let gone : size leaf (entry_at es i) ≡ n = ap (size leaf) (entry_at-entries_of leaf old i h.place) ∙ key_len leaf old (slot_at old i) (omega (arith, h.packed.high i h.place, h.packed.len)) ∙ sym h.is_size in
    omega (arith, ap (sum_by (size leaf)) (entries_removed leaf old mid new i at n h), sum_by-remove (size leaf) es i no_entry within, gone, h.packed.full)

pub packed_removed : (leaf : Bool) (old mid new : List ℕ) (i at n : ℕ) → Removed leaf old mid new i at n → IsPacked leaf new
packed_removed leaf old mid new i at n h =
    let b = bounds leaf old mid new i at n h in
    record {
      len = h.slots.len ∙ h.cells.len ∙ h.packed.len;
      slots = omega (arith, h.slots.counted, h.slots.started, b.slots);
      start = omega (arith, h.slots.started, b.low, b.high);
      low = λ j lt. let f = comes_from leaf old mid new i at n h j lt in
          omega (arith, (cell_of leaf old mid new i at n h j f.0 f.1).place, h.packed.low f.0 f.1.within, h.slots.started, b.low);
      high = λ j lt. let f = comes_from leaf old mid new i at n h j lt in
          omega (arith, (cell_of leaf old mid new i at n h j f.0 f.1).place, (cell_of leaf old mid new i at n h j f.0 f.1).size, h.packed.high f.0 f.1.within, b.high);
      keyed = λ j lt. let f = comes_from leaf old mid new i at n h j lt in
          omega (arith, (cell_of leaf old mid new i at n h j f.0 f.1).len, h.packed.keyed f.0 f.1.within);
      apart = still_apart leaf old mid new i at n h;
      full = omega (arith, still_full leaf old mid new i at n h, h.slots.started);
      clear = λ k low high. cleared leaf old mid new i at n h k low high;
      rises = still_rise leaf old mid new i at n h;
    }

-- what the calls of a removal give
pub as_removed : (leaf : Bool) (old mid new : List ℕ) (i count start at len n : ℕ) → count ≡ count_of old → start ≡ start_of old → at ≡ slot_at old i
    → n ≡ 1 + slice_index old at + width leaf → IsPacked leaf old → i < count_of old → MovesCells old mid start at n → DropsSlot mid new count i (start + n) at n
    → Removed leaf old mid new i at n
as_removed leaf old mid new i count start at len n counted started is_at is_size packed place cells slots =
    record {
      packed = packed;
      place = place;
      is_at = is_at;
      is_size = is_size ∙ ap (cell_size leaf old) is_at;
      cells = rw started at cells;
      slots = rw (counted, started) at slots;
    }
