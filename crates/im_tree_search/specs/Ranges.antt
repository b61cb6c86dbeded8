-- The entries of a range of keys.
use Rattle.std.specs.Prelude.{◌≡◌, ◌<◌, ◌≤◌, ◌+◌, ◌++◌, ◌&&◌, not, ℕ, Bool, true, false, List, length, take, Option, None, Some, option_map}
use Rattle.std.specs.List.{filter}
use Rattle.im_base_types.specs.Keys.{Key}
use Rattle.im_base_types.specs.Pages.{Entry}
use Rattle.im_base_types.specs.Maps.{Start, Above, is_below, is_past, first_in}
use Rattle.im_theory_page.specs.Entry.{entry_at}
use Rattle.im_theory_tree.specs.Levels.{Pages, Node, leaves_under, entries_in, the_root, height, walk}
use Rattle.im_theory_tree.specs.Good.{AllOf, first_page}
use Rattle.im_theory_tree.specs.Search.{IsOnWay}
use Rattle.im_tree_search.specs.declared.next_key.NextKey.{NextKey}
use Rattle.im_tree_search.specs.NextKeys.{far_name, IsFar}

-- ---- over a list of entries

-- the entries before place i are not past the start, and those from it on are
pub record IsParted (s : Start) (es : List Entry) (i : ℕ) : Type 0 where
  pub inside : i ≤ length es
  pub low : (j : ℕ) → j < i → is_past s (entry_at es j).0 ≡ false
  pub high : (j : ℕ) → i ≤ j → j < length es → is_past s (entry_at es j).0 ≡ true

-- whether a key lies from lo to hi
abbrev pub is_within : Key → Key → Key → Bool
is_within lo hi key = not (is_below key lo) && not (is_below hi key)

-- of these entries, those from lo to hi
abbrev pub within : Key → Key → List Entry → List Entry
within lo hi es = filter (λ (e : Entry). is_within lo hi e.0) es

-- the key of an entry that may be missing
abbrev pub key_if : Option Entry → Option Key
key_if found = option_map (λ (e : Entry). e.0) found

-- What a leaf with these entries adds to those of a range: all that lie in it, and the range goes on; as many as make them the limit; or all that lie in it, where its first key above hi is that one.
abbrev pub IsPart : Key → Key → ℕ → List Entry → List Entry → List Entry → Option (Option NextKey) → Type 0
IsPart lo hi limit es old new None = (new ≡ old ++ within lo hi es) × (length new < limit) × (first_in (Above hi) es ≡ None)
IsPart lo hi limit es old new (Some None) = (new ≡ take limit (old ++ within lo hi es)) × (length new ≡ limit)
IsPart lo hi limit es old new (Some (Some behind)) =
    (new ≡ old ++ within lo hi es) × (length new < limit) × ((e : Entry) × (first_in (Above hi) es ≡ Some e) × (far_name behind ≡ Some e.0)) × IsFar behind

-- These are the entries from lo to hi, the first so many of them. Where they are fewer than the limit, and hi is not below lo, the key after them is the first above hi, or there is none; otherwise nothing is said to stand after them.
pub record IsRange (es : List Entry) (lo hi : Key) (limit : ℕ) (list : List Entry) (behind : Option NextKey) : Type 0 where
  pub entries : list ≡ take limit (within lo hi es)
  pub none : is_below hi lo ≡ true → behind ≡ None
  pub fewer : is_below hi lo ≡ false → length list < limit → option_map far_name behind ≡ Some (key_if (first_in (Above hi) es))
  pub full : length list ≡ limit → behind ≡ None

-- ---- along the leaves

-- From the leaf of lo on, n leaves have no key above hi.
pub record Passes (pages : Pages) (lo hi : Key) (n : ℕ) : Type 0 where
  pub before : List Node
  pub passed : List Node
  pub rest : List Node
  pub leaves : leaves_under pages (height pages) the_root ≡ before ++ (passed ++ rest)
  pub way : IsOnWay pages 0 lo (first_page (passed ++ rest))
  pub none : AllOf (λ (m : Node). first_in (Above hi) (pages m.page).entries ≡ None) passed
  pub count : n ≡ length passed

-- The list has the entries of the range in the leaves before page p, which is 0 after the last leaf: those before the leaf of lo, which have none, and n more, none of which has a key above hi.
pub record IsAlong (pages : Pages) (lo hi : Key) (list : List Entry) (n p : ℕ) : Type 0 where
  pub passes : Passes pages lo hi n
  pub page : first_page passes.rest ≡ p
  pub entries : list ≡ within lo hi (entries_in pages (passes.before ++ passes.passed))
  pub first : first_in (Above hi) (entries_in pages (passes.before ++ passes.passed)) ≡ None

-- From the leaf of lo on, m leaves have no key above hi, of which n were passed before, and for the others there were so many gets at most: one each, one for the page count, and one for the leaf where the range ends.
pub record PassesOn (pages : Pages) (lo hi : Key) (n old_gets gets : ℕ) : Type 0 where
  pub m : ℕ
  pub passes : Passes pages lo hi m
  pub some : 1 ≤ m
  pub count : gets + n ≤ old_gets + 2 + m

-- The gets of a range: one for each level down to the leaf of lo and, where that leaf does not end it, one for the page count and one for each leaf after.
pub record GetsOf (pages : Pages) (lo hi : Key) (old_gets gets : ℕ) : Type 0 where
  pub n : ℕ
  pub passes : Passes pages lo hi n
  pub one : n ≡ 0 → gets ≡ old_gets + (height pages + 1)
  pub more : gets ≤ old_gets + (height pages + 2) + n

-- What the search along the leaf chain answers, which has n leaves after it: the entries are those of the range on the walk, the gets are those of its leaves.
pub record RangesAlong (pages : Pages) (lo hi : Key) (limit n : ℕ) (list : List Entry) (behind : Option NextKey) (old_gets new_gets : ℕ) : Type 0 where
  pub range : IsRange (walk pages) lo hi limit list behind
  pub gets : PassesOn pages lo hi n old_gets new_gets

-- What the search for a range answers.
pub record Ranged (pages : Pages) (lo hi : Key) (limit : ℕ) (list : List Entry) (behind : Option NextKey) (old_gets new_gets : ℕ) : Type 0 where
  pub range : IsRange (walk pages) lo hi limit list behind
  pub gets : GetsOf pages lo hi old_gets new_gets

-- The list has the entries of the range in the leaves before page p; the leaves passed and those that may still come are together no fewer than there are pages.
pub record RangesOn (pages : Pages) (lo hi : Key) (list : List Entry) (begun old_gets left p gets : ℕ) : Type 0 where
  pub n : ℕ
  pub along : IsAlong pages lo hi list n p
  pub some : 1 ≤ n
  pub count : (pages 0).leftmost ≤ left + n
  pub gone : gets + begun ≤ old_gets + 1 + n
