-- The form of cells and slots as a test, so that the page that bytes are is a function of them.
use Rattle.std.specs.Prelude.{ℕ, zero, suc, ◌+◌, ◌*◌, Bool, true, false, List, length, sum_by, slice_index, ◌==◌, nat_le, ◌&&◌, ◌||◌}
use Rattle.std.specs.declared.cmp.Ordering.{Ordering}
use Rattle.std.specs.declared.cmp.Ordering.TheVariants.{Less, Equal, Greater}
use Rattle.im_base_types.specs.Keys.{key_order}
use Rattle.im_theory_page.specs.Entry.{size}
use Rattle.im_theory_page.specs.Form.{count_of, start_of, slot_at, cell_size, key_from, entries_of}

-- a test holds of each number below n
abbrev pub all_below : (ℕ → Bool) → ℕ → Bool
all_below test zero = true
all_below test (suc n) = test n && all_below test n

abbrev pub is_less : Ordering → Bool
is_less Less = true
is_less Equal = false
is_less Greater = false

-- a cell that begins at `at` lies in the area of the cells, and has a key
abbrev pub is_cell : Bool → List ℕ → ℕ → Bool
is_cell leaf bytes at = nat_le (start_of bytes) at && (nat_le (at + cell_size leaf bytes at) 4096 && nat_le 1 (slice_index bytes at))

-- slot i is slot j, or their cells share no byte
abbrev pub are_apart : Bool → List ℕ → ℕ → ℕ → Bool
are_apart leaf bytes i j =
    i == j
    || (nat_le (slot_at bytes i + cell_size leaf bytes (slot_at bytes i)) (slot_at bytes j)
    || nat_le (slot_at bytes j + cell_size leaf bytes (slot_at bytes j)) (slot_at bytes i))

-- the key of slot i is below that of slot j
abbrev pub is_below : List ℕ → ℕ → ℕ → Bool
is_below bytes i j = is_less (key_order (key_from bytes (slot_at bytes i)) (key_from bytes (slot_at bytes j)))

-- byte k is zero, or is no byte between the slots and the cells
abbrev pub is_free_zero : List ℕ → ℕ → Bool
is_free_zero bytes k = slice_index bytes k == 0 || nat_le (suc k) (32 + 2 * count_of bytes)

-- slots, zeros and packed cells
abbrev pub is_packed : Bool → List ℕ → Bool
is_packed leaf bytes =
    length bytes == 4096
    && (nat_le (32 + 2 * count_of bytes) (start_of bytes)
    && (nat_le (start_of bytes) 4096
    && (all_below (λ i. is_cell leaf bytes (slot_at bytes i)) (count_of bytes)
    && (all_below (λ i. all_below (are_apart leaf bytes i) (count_of bytes)) (count_of bytes)
    && (start_of bytes + sum_by (size leaf) (entries_of leaf bytes) == 4096
    && (all_below (is_free_zero bytes) (start_of bytes)
    && all_below (λ j. all_below (λ i. is_below bytes i j) j) (count_of bytes)))))))
