-- What an access asks is for the instant or lasts.
use Rattle.std.proofs.Common.{◌≡◌, ℕ, Bool, true, false, cond, map, length, nat_lt, List, [], ◌∷◌, ◌++◌, Option, Some, None, is_some, refl, ap}
use Rattle.std.specs.FinMap.{get}
use Rattle.im_base_types.specs.Keys.{Key}
use Rattle.im_base_types.specs.Maps.{IndexMap, is_below, From, first, last_below}
use Rattle.im_base_types.specs.Pages.{Entry}
use Rattle.im_base_types.specs.Answers.{Access, Fetch, Seek, Next, Prev, Scan, Insert, Delete, limit_of, scan}
use Rattle.im_theory_machine.specs.Locks.{Name, At, Lock, Request, kept, held_now}
use Rattle.im_theory_machine.specs.Rows.{name_of, next_name, shared, found_row, scan_row, asked}
use Rattle.im_theory_machine.specs.declared.lock_kind.Mode.TheVariants.{Shared, Exclusive}
use Rattle.im_theory_machine.specs.declared.lock_kind.Duration.TheVariants.{Instant, ToCommit}

scan-kept : (es : List (Key × ℕ)) (b : Bool) (n : Name) (ls : List Lock) → held_now (map (λ e. shared (At e.0)) es ++ cond b (shared n ∷ []) []) ls ≡ kept (map (λ e. shared (At e.0)) es ++ cond b (shared n ∷ []) []) ls
scan-kept [] true n ls = refl
scan-kept [] false n ls = refl
scan-kept (e ∷ es) b n ls = ap (λ (ks : List Lock). record { name = At e.0; mode = Shared } ∷ ks) (scan-kept es b n ls)

-- so nothing of it falls back
pub asked-kept : (a : Access) (m : IndexMap) (ls : List Lock) → held_now (asked a m) ls ≡ kept (asked a m) ls
asked-kept (Fetch k) m ls = refl
asked-kept (Seek k) m ls = refl
asked-kept (Next k) m ls = refl
asked-kept (Prev k) m ls = go (last_below k m)
  where
    go : (o : Option Entry) → held_now (shared (name_of (first (From k) m)) ∷ found_row o) ls ≡ kept (shared (name_of (first (From k) m)) ∷ found_row o) ls
    go None = refl
    go (Some e) = refl
asked-kept (Scan lo hi n) m ls = go (is_below hi lo)
  where
    go : (b : Bool) → held_now (cond b [] (scan_row lo hi (limit_of n) m)) ls ≡ kept (cond b [] (scan_row lo hi (limit_of n) m)) ls
    go true = refl
    go false = scan-kept (scan lo hi (limit_of n) m) (nat_lt (length (scan lo hi (limit_of n) m)) (limit_of n)) (next_name m hi) ls
asked-kept (Insert k r) m ls = go (is_some (get m k))
  where
    row : Bool → List Request
    row b = cond b (shared (At k) ∷ []) (record { name = next_name m k; mode = Exclusive; duration = Instant } ∷ record { name = At k; mode = Exclusive; duration = ToCommit } ∷ [])

    go : (b : Bool) → held_now (row b) ls ≡ kept (row b) ls
    go true = refl
    go false = refl
asked-kept (Delete k) m ls = go (is_some (get m k))
  where
    row : Bool → List Request
    row b = cond b (record { name = next_name m k; mode = Exclusive; duration = ToCommit } ∷ record { name = At k; mode = Exclusive; duration = Instant } ∷ []) (shared (next_name m k) ∷ [])

    go : (b : Bool) → held_now (row b) ls ≡ kept (row b) ls
    go true = refl
    go false = refl
