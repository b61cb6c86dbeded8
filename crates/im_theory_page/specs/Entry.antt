-- The entries of a page, as its callers see them.
use Rattle.std.specs.Prelude.{Result, Ok, Err, ◌≡◌, ℕ, ◌+◌, ◌<◌, ◌≤◌, Bool, List, [], length, sum_by, slice_index_or, if◌then◌else◌}
use Rattle.im_base_types.specs.Keys.{Key, IsBelow}
use Rattle.im_base_types.specs.Pages.{Entry}

abbrev pub no_entry : Entry
no_entry = ([], 0)

abbrev pub entry_at : List Entry → ℕ → Entry
entry_at es i = slice_index_or es i no_entry

-- keys strictly rise
abbrev pub Rises : List Entry → Type 0
Rises es = (i j : ℕ) → i < j → j < length es → IsBelow (entry_at es i).0 (entry_at es j).0

-- the keys before place i are below this key, and those from `from` on are above it
pub record Parts (es : List Entry) (key : Key) (i from : ℕ) : Type 0 where
  pub within : i ≤ length es
  pub below : (j : ℕ) → j < i → IsBelow (entry_at es j).0 key
  pub above : (j : ℕ) → from ≤ j → j < length es → IsBelow key (entry_at es j).0

-- the place of a key: `Ok` where it stands, `Err` where it would
abbrev pub IsPlace : List Entry → Key → Result ℕ ℕ → Type 0
IsPlace es key (Ok i) = (i < length es) × ((entry_at es i).0 ≡ key)
IsPlace es key (Err i) = Parts es key i i

-- the bytes of a value
abbrev pub width : Bool → ℕ
width leaf = if leaf then 8 else 4

-- the bytes of an entry's cell
abbrev pub size : Bool → Entry → ℕ
size leaf e = 1 + length e.0 + width leaf

-- the bytes of the cells and slots of entries
abbrev pub taken : Bool → List Entry → ℕ
taken leaf es = sum_by (λ e. size leaf e + 2) es
