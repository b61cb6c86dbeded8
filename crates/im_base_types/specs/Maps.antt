-- The map of the index, and the search for the first entry past a place.
use Rattle.std.specs.Prelude.{ℕ, Bool, not, cond, List, [], ◌∷◌, Option, Some, None}
use Rattle.std.specs.Ordering.{is_lt, eq_by_cmp}
use Rattle.std.specs.FinMap.{FinMap, entries, put}
use Rattle.std.specs.FinMap.Entries.{where_key}
use Rattle.im_base_types.specs.Keys.{Key, key_order}
use Rattle.im_base_types.specs.Pages.{Entry}

-- from keys to row ids
abbrev pub IndexMap : Type 0
IndexMap = FinMap key_order ℕ

-- whether the one key is strictly below the other
unfoldable pub is_below : Key → Key → Bool
is_below a b = is_lt (key_order a b)

-- where a search begins: at a key or above it
pub data Start : Type 0 where
  From : (key : Key) → Start
  Above : (key : Key) → Start

-- whether a key is at the start or past it
abbrev pub is_past : Start → Key → Bool
is_past (From k) x = not (is_below x k)
is_past (Above k) x = is_below k x

-- the first of these entries that is past the start
abbrev pub first_in : Start → List Entry → Option Entry
first_in s [] = None
first_in s (e ∷ es) = cond (is_past s e.0) (Some e) (first_in s es)

-- the entry with the least key past the start
unfoldable pub first : Start → IndexMap → Option Entry
first s m = first_in s (entries m)

abbrev pub or_this : Entry → Option Entry → Option Entry
or_this e None = Some e
or_this e (Some l) = Some l

-- the last of these rising entries that is below a key
abbrev pub last_in : Key → List Entry → Option Entry
last_in k [] = None
last_in k (e ∷ es) = cond (is_below e.0 k) (or_this e (last_in k es)) None

-- the entry with the greatest key below this one
unfoldable pub last_below : Key → IndexMap → Option Entry
last_below k m = last_in k (entries m)

-- the entries with a key put in at its place
abbrev pub with_key : Key → ℕ → List Entry → List Entry
with_key k i es = put key_order k i es

-- the entries without a key
abbrev pub without_key : Key → List Entry → List Entry
without_key k es = where_key key_order (λ x. not (eq_by_cmp key_order k x)) es
