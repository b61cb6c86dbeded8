-- The form of a page that has entries, over its bytes.
use Rattle.std.specs.Prelude.{◌≡◌, ◌≢◌, ◌⊎◌, ℕ, ◌+◌, ◌*◌, ◌<◌, ◌≤◌, Bool, List, length, map, sum_by, slice_index, slice_range, if◌then◌else◌}
use Rattle.std.specs.List.{range_with_len}
use Rattle.im_theory_page.specs.Number.{u16_at, u32_at, u64_at}
use Rattle.im_theory_page.specs.Entry.{width, size}
use Rattle.im_base_types.specs.Keys.{IsBelow}
use Rattle.im_base_types.specs.Pages.{Entry}

abbrev pub count_of : List ℕ → ℕ
count_of bytes = u16_at bytes 12

-- where the cells begin
abbrev pub start_of : List ℕ → ℕ
start_of bytes = u16_at bytes 14

-- where cell i begins
abbrev pub slot_at : List ℕ → ℕ → ℕ
slot_at bytes i = u16_at bytes (32 + 2 * i)

-- the bytes of the cell that begins at `at`
abbrev pub cell_size : Bool → List ℕ → ℕ → ℕ
cell_size leaf bytes at = 1 + slice_index bytes at + width leaf

abbrev pub key_from : List ℕ → ℕ → List ℕ
key_from bytes at = slice_range bytes (at + 1) (at + 1 + slice_index bytes at)

-- a value, in eight bytes in a leaf and in four in an inner page
abbrev pub value_at : Bool → List ℕ → ℕ → ℕ
value_at leaf bytes at = if leaf then u64_at bytes at else u32_at bytes at

-- the entry of the cell that begins at `at`
unfoldable pub entry_from : Bool → List ℕ → ℕ → Entry
entry_from leaf bytes at = (key_from bytes at, value_at leaf bytes (at + 1 + slice_index bytes at))

-- the entries, in the order of their slots
unfoldable pub entries_of : Bool → List ℕ → List Entry
entries_of leaf bytes = map (λ i. entry_from leaf bytes (slot_at bytes i)) (range_with_len 0 (count_of bytes))

-- the keys of the slots strictly rise
abbrev pub KeysRise : List ℕ → Type 0
KeysRise bytes = (i j : ℕ) → i < j → j < count_of bytes → IsBelow (key_from bytes (slot_at bytes i)) (key_from bytes (slot_at bytes j))

-- no two cells share a byte
abbrev pub CellsAreApart : Bool → List ℕ → Type 0
CellsAreApart leaf bytes = (i j : ℕ) → i < count_of bytes → j < count_of bytes → i ≢ j
    → (slot_at bytes i + cell_size leaf bytes (slot_at bytes i) ≤ slot_at bytes j)
    ⊎ (slot_at bytes j + cell_size leaf bytes (slot_at bytes j) ≤ slot_at bytes i)

-- slots from byte 32, then zeros, then the cells, in any order and without a gap, up to the end
pub record IsPacked (leaf : Bool) (bytes : List ℕ) : Type 0 where
  pub len : length bytes ≡ 4096
  pub slots : 32 + 2 * count_of bytes ≤ start_of bytes
  pub start : start_of bytes ≤ 4096
  pub low : (i : ℕ) → i < count_of bytes → start_of bytes ≤ slot_at bytes i
  pub high : (i : ℕ) → i < count_of bytes → slot_at bytes i + cell_size leaf bytes (slot_at bytes i) ≤ 4096
  pub keyed : (i : ℕ) → i < count_of bytes → 1 ≤ slice_index bytes (slot_at bytes i)
  pub apart : CellsAreApart leaf bytes
  pub full : start_of bytes + sum_by (size leaf) (entries_of leaf bytes) ≡ 4096
  pub clear : (k : ℕ) → 32 + 2 * count_of bytes ≤ k → k < start_of bytes → slice_index bytes k ≡ 0
  pub rises : KeysRise bytes
