-- What a search tells of a key on a map, and a scan of a range.
use Rattle.std.specs.Prelude.{◌≡◌, ◌<◌, ℕ, Bool, true, false, List, [], ◌∷◌, length, Option, Some, None, is_some}
use Rattle.std.specs.FinMap.{get}
use Rattle.im_base_types.specs.Keys.{Key}
use Rattle.im_base_types.specs.Maps.{IndexMap, From, is_below, first, last_below}
use Rattle.im_base_types.specs.Pages.{Entry}
use Rattle.im_base_types.specs.Answers.{limit_of, scan}
use Rattle.im_theory_machine.specs.Locks.{Name, At, Request as Asked}
use Rattle.im_theory_machine.specs.Rows.{name_of, next_name, shared}

-- whether the key is there and, where it is not, which name is next
pub record FindsNextName (m : IndexMap) (key : Key) (there : Bool) (next : Name) : Type 0 where
  pub there_is : is_some (get m key) ≡ there
  pub next_is : there ≡ false → next ≡ next_name m key

-- whether the key is there, and which name is next
pub record FindsNext (m : IndexMap) (key : Key) (there : Bool) (next : Name) : Type 0 where
  pub there_is : is_some (get m key) ≡ there
  pub next_is : next ≡ next_name m key

-- the name of an entry, where there is one
abbrev pub name_below : Option Entry → Option Name
name_below None = None
name_below (Some e) = Some (At e.0)

-- which name is the last below the key, where there is one, and which is the least at or above it
pub record FindsBelow (m : IndexMap) (key : Key) (found : Option Name) (next : Name) : Type 0 where
  pub found_is : found ≡ name_below (last_below key m)
  pub next_is : next ≡ name_of (first (From key) m)

-- what is asked of the name after a scan's entries
abbrev pub end_row : Option Name → List Asked
end_row None = []
end_row (Some name) = shared name ∷ []

-- These are the entries that a scan answers, and this is the name after them, where they are fewer than its limit. Where lo is above hi there is neither.
pub record IsScanOf (m : IndexMap) (lo hi : Key) (n : ℕ) (answered : List (Key × ℕ)) (end : Option Name) : Type 0 where
  pub entries : answered ≡ scan lo hi (limit_of n) m
  pub none : is_below hi lo ≡ true → end ≡ None
  pub fewer : is_below hi lo ≡ false → length answered < limit_of n → end ≡ Some (next_name m hi)
  pub full : length answered ≡ limit_of n → end ≡ None
