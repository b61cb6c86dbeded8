-- The locks that each access asks, by what its search finds on the map.
use Rattle.std.specs.Prelude.{ℕ, nat_lt, cond, List, [], ◌∷◌, ◌++◌, map, length, Option, Some, None, is_some}
use Rattle.std.specs.FinMap.{get}
use Rattle.im_base_types.specs.Keys.{Key}
use Rattle.im_base_types.specs.Maps.{IndexMap, From, Above, is_below, first, last_below}
use Rattle.im_base_types.specs.Pages.{Entry}
use Rattle.im_base_types.specs.Answers.{Access, Fetch, Seek, Next, Prev, Scan, Insert, Delete, limit_of, scan}
use Rattle.im_theory_machine.specs.Locks.{Name, At, PastAll, Request}
use Rattle.im_theory_machine.specs.declared.lock_kind.Mode.TheVariants.{Shared, Exclusive}
use Rattle.im_theory_machine.specs.declared.lock_kind.Duration.TheVariants.{Instant, ToCommit}

-- the name of what a search found: its key, or the name past the last key where it found nothing
abbrev pub name_of : Option (Key × ℕ) → Name
name_of None = PastAll
name_of (Some e) = At e.0

-- the least key above k, else the name past the last key
abbrev pub next_name : IndexMap → Key → Name
next_name m k = name_of (first (Above k) m)

-- the key where it is there, else the next one
abbrev pub there_or_next : IndexMap → Key → Name
there_or_next m k = cond (is_some (get m k)) (At k) (next_name m k)

-- a shared lock to commit
abbrev pub shared : Name → Request
shared n = record { name = n; mode = Shared; duration = ToCommit }

-- each entry answered and, where they are fewer than the limit, the first key above hi
abbrev pub scan_row : Key → Key → ℕ → IndexMap → List Request
scan_row lo hi n m =
    let es = scan lo hi n m in
    map (λ e. shared (At e.0)) es ++ cond (nat_lt (length es) n) (shared (next_name m hi) ∷ []) []

-- what was found below a key, if anything was
abbrev pub found_row : Option Entry → List Request
found_row None = []
found_row (Some e) = shared (At e.0) ∷ []

-- the least key at or above k, which guards the gap below it, and the entry that was found below k
abbrev pub prev_row : Key → IndexMap → List Request
prev_row k m = shared (name_of (first (From k) m)) ∷ found_row (last_below k m)

-- the locks that an access asks
abbrev pub asked : Access → IndexMap → List Request
asked (Fetch k) m = shared (there_or_next m k) ∷ []
asked (Seek k) m = shared (name_of (first (From k) m)) ∷ []
asked (Next k) m = shared (name_of (first (Above k) m)) ∷ []
asked (Prev k) m = prev_row k m
asked (Scan lo hi n) m = cond (is_below hi lo) [] (scan_row lo hi (limit_of n) m)
asked (Insert k r) m =
    cond (is_some (get m k)) (shared (At k) ∷ [])
    (record { name = next_name m k; mode = Exclusive; duration = Instant } ∷ record { name = At k; mode = Exclusive; duration = ToCommit } ∷ [])
asked (Delete k) m =
    cond (is_some (get m k))
    (record { name = next_name m k; mode = Exclusive; duration = ToCommit } ∷ record { name = At k; mode = Exclusive; duration = Instant } ∷ [])
    (shared (next_name m k) ∷ [])
