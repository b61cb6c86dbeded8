-- The test of a page's form, slot by slot.
use Rattle.std.specs.Prelude.{◌≡◌, ◌≢◌, ◌⊎◌, ℕ, ◌+◌, ◌-◌, ◌*◌, ◌^◌, ◌<◌, ◌≤◌, Bool, true, false, List, length, map, sum_by, slice_index, slice_index_or, take}
use Rattle.std.specs.Int.{w64, from_be_bytes}
use Rattle.std.specs.List.{range_with_len}
use Rattle.im_theory_page.specs.Entry.{size}
use Rattle.im_base_types.specs.Keys.{Key, IsBelow}
use Rattle.im_theory_page.specs.Form.{count_of, start_of, slot_at, cell_size, key_from, entry_from}

abbrev pub is_taken : List Bool → ℕ → Bool
is_taken flags k = slice_index_or flags k false

-- a cell lies in the area, and has a key
pub record IsCell (leaf : Bool) (bytes : List ℕ) (at : ℕ) : Type 0 where
  pub low : start_of bytes ≤ at
  pub high : at + cell_size leaf bytes at ≤ 4096
  pub keyed : 1 ≤ slice_index bytes at

-- the first n slots are those of a packed page
pub record AreSound (leaf : Bool) (bytes : List ℕ) (n : ℕ) : Type 0 where
  pub cells : (i : ℕ) → i < n → IsCell leaf bytes (slot_at bytes i)
  pub apart : (i j : ℕ) → i < n → j < n → i ≢ j
      → (slot_at bytes i + cell_size leaf bytes (slot_at bytes i) ≤ slot_at bytes j)
      ⊎ (slot_at bytes j + cell_size leaf bytes (slot_at bytes j) ≤ slot_at bytes i)
  pub rises : (i j : ℕ) → i < j → j < n → IsBelow (key_from bytes (slot_at bytes i)) (key_from bytes (slot_at bytes j))

-- the first byte of each slot's cell is flagged
abbrev pub HasSlots : List ℕ → List Bool → Type 0
HasSlots bytes flags = (i : ℕ) → i < count_of bytes → is_taken flags (slot_at bytes i) ≡ true

-- what the first n cells take
abbrev pub total_of : Bool → List ℕ → ℕ → ℕ
total_of leaf bytes n = sum_by (size leaf) (map (λ i. entry_from leaf bytes (slot_at bytes i)) (range_with_len 0 n))

-- the first eight bytes of a key as a number, and where it has fewer the greatest number of 64 bits, which no first word is above
abbrev pub IsTopOf : Key → ℕ → Type 0
IsTopOf key n = (8 ≤ length key → n ≡ from_be_bytes w64 (take 8 key)) × (length key < 8 → n ≡ 2 ^ 64 - 1)

-- the same, and where it has fewer 0, which is above none
abbrev pub IsFootOf : Key → ℕ → Type 0
IsFootOf key n = (8 ≤ length key → n ≡ from_be_bytes w64 (take 8 key)) × (length key < 8 → n ≡ 0)

-- all slots are those of a packed page, and no byte is left over
pub record SlotsSound (leaf : Bool) (bytes : List ℕ) : Type 0 where
  pub sound : AreSound leaf bytes (count_of bytes)
  pub full : start_of bytes + total_of leaf bytes (count_of bytes) ≡ 4096

-- flagged are where the cells begin, and where each of the first n slots' cells ends
pub record AreEnds (leaf : Bool) (bytes : List ℕ) (flags : List Bool) (n : ℕ) : Type 0 where
  pub len : length flags ≡ 4097
  pub start : is_taken flags (start_of bytes) ≡ true
  pub ends : (i : ℕ) → i < n → is_taken flags (slot_at bytes i + cell_size leaf bytes (slot_at bytes i)) ≡ true
  pub only : (k : ℕ) → is_taken flags k ≡ true → (k ≡ start_of bytes) ⊎ ((i : ℕ) × (i < n) × (slot_at bytes i + cell_size leaf bytes (slot_at bytes i) ≡ k))

-- one flag is set
pub record MarksOne (old new : List Bool) (at : ℕ) : Type 0 where
  pub len : length new ≡ length old
  pub here : is_taken new at ≡ true
  pub others : (k : ℕ) → k ≢ at → is_taken new k ≡ is_taken old k

-- the first n slots' cells lie one in front of the other, from the page's end down to `from`
pub record ArePacked (leaf : Bool) (bytes : List ℕ) (n from : ℕ) : Type 0 where
  pub low : (i : ℕ) → i < n → from ≤ slot_at bytes i
  pub falls : (i j : ℕ) → i < j → j < n → slot_at bytes j + cell_size leaf bytes (slot_at bytes j) ≤ slot_at bytes i
  pub high : (i : ℕ) → i < n → slot_at bytes i + cell_size leaf bytes (slot_at bytes i) ≤ 4096
  pub full : from + total_of leaf bytes n ≡ 4096

-- a cell of this size is in the page, a whole number of such cells after where the cells begin
pub record IsPlace (start each at : ℕ) : Type 0 where
  pub high : at + each ≤ 4096
  pub behind : (k : ℕ) × (start + k * each ≡ at)

-- the first n slots are places of cells of one size
abbrev pub ArePlaces : List ℕ → ℕ → ℕ → Type 0
ArePlaces bytes each n = (i : ℕ) → i < n → IsPlace (start_of bytes) each (slot_at bytes i)

-- the first n slots' cells have one size, and keys that rise from one to the next
pub record AreUniform (leaf : Bool) (bytes : List ℕ) (each n : ℕ) : Type 0 where
  pub sizes : (i : ℕ) → i < n → cell_size leaf bytes (slot_at bytes i) ≡ each
  pub total : total_of leaf bytes n ≡ n * each
  pub keyed : (i : ℕ) → i < n → 1 ≤ slice_index bytes (slot_at bytes i)
  pub below : (i : ℕ) → 0 < i → i < n → IsBelow (key_from bytes (slot_at bytes (i - 1))) (key_from bytes (slot_at bytes i))
