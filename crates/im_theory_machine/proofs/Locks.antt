-- Locks asked and kept, and the two kinds of outcome of an access.
use Rattle.std.proofs.Common.{subst, ◌≡◌, ℕ, Bool, true, false, cond, List, [], ◌∷◌, Option, Some, None, refl, sym, inl, inr, ◌⊎◌}
use Rattle.std.specs.FinMap.{get}
use Rattle.im_base_types.specs.Keys.{Key}
use Rattle.im_base_types.specs.Maps.{IndexMap, is_below, From, first, last_below}
use Rattle.im_base_types.specs.Answers.{Access, Fetch, Seek, Next, Prev, Scan, Insert, Delete, changes, limit_of}
use Rattle.im_base_types.specs.Changes.{Change, Put, Drop, key_of}
use Rattle.im_theory_machine.specs.Locks.{Name, At, Request, Lock, kept, kept_if, Holds, Asks}
use Rattle.im_theory_machine.specs.Rows.{next_name, name_of, there_or_next, shared, found_row, scan_row, asked}
use Rattle.im_theory_machine.specs.declared.lock_kind.Mode.{Mode}
use Rattle.im_theory_machine.specs.declared.lock_kind.Mode.TheVariants.{Exclusive}
use Rattle.im_theory_machine.specs.declared.lock_kind.Duration.{Duration}
use Rattle.im_theory_machine.specs.declared.lock_kind.Duration.TheVariants.{Instant, ToFinish, ToCommit}
use Rattle.im_theory_machine.proofs.Scans.{row-steps}
use Rattle.im_theory_machine.proofs.Guards.{guard, guard-there, guard-absent}
use Rattle.im_theory_machine.proofs.Changes.{was, owned}
use Rattle.im_theory_machine.proofs.ReadKeys.{Reads, row_by-kept}

kept_if-old : (d : Duration) (l : Lock) (ls : List Lock) (n : Name) (md : Mode) → Holds ls n md → Holds (kept_if d l ls) n md
kept_if-old Instant l ls n md h = h
kept_if-old ToFinish l ls n md h = h
kept_if-old ToCommit l ls n md h = inr h

pub kept-old : (qs : List Request) (ls : List Lock) (n : Name) (md : Mode) → Holds ls n md → Holds (kept qs ls) n md
kept-old [] ls n md h = h
kept-old (q ∷ qs) ls n md h = kept_if-old q.duration _ (kept qs ls) n md (kept-old qs ls n md h)

kept_if-from : (d : Duration) (l : Lock) (ls : List Lock) (n : Name) (md : Mode) → Holds (kept_if d l ls) n md → ((l.name ≡ n) × (l.mode ≡ md)) ⊎ Holds ls n md
kept_if-from Instant l ls n md h = inr h
kept_if-from ToFinish l ls n md h = inr h
kept_if-from ToCommit l ls n md h = h

-- what is held afterwards was held or asked
pub kept-from : (qs : List Request) (ls : List Lock) (n : Name) (md : Mode) → Holds (kept qs ls) n md → Holds ls n md ⊎ Asks qs n md
kept-from [] ls n md h = inl h
kept-from (q ∷ qs) ls n md h =
    elim (kept_if-from q.duration (record { name = q.name; mode = q.mode }) (kept qs ls) n md h) [
      | inl p ↦ inr (inl p)
      | inr t ↦ elim (kept-from qs ls n md t) [ inl o ↦ inl o | inr a ↦ inr (inr a) ]
    ]

-- an access that changes nothing keeps each lock that it asks
pub record IsStill (a : Access) (m : IndexMap) (ls : List Lock) : Type 0 where
  pub nothing : changes a m ≡ []
  pub keeps : (n : Name) (md : Mode) → Asks (asked a m) n md → Holds (kept (asked a m) ls) n md

-- one that changes a key asks for the guard of that key, and keeps the name that guards it afterwards
pub record Makes (a : Access) (m : IndexMap) (ls : List Lock) (c : Change) : Type 0 where
  pub change : changes a m ≡ c ∷ []
  pub before : get m (key_of c) ≡ was c
  pub asks : Asks (asked a m) (guard m (key_of c)) Exclusive
  pub owns : Holds (kept (asked a m) ls) (owned m c) Exclusive
  pub alone : (x : Key) → Reads a m x → x ≡ key_of c
  pub itself : Reads a m (key_of c)

one_kept : (q : Name) (ls : List Lock) (n : Name) (md : Mode) → Asks (shared q ∷ []) n md → Holds (kept (shared q ∷ []) ls) n md
one_kept q ls n md h = elim h [ inl p ↦ inl p | inr t ↦ absurd t ]

prev_kept : (q : Name) (o : Option (Key × ℕ)) (ls : List Lock) (n : Name) (md : Mode) → Asks (shared q ∷ found_row o) n md → Holds (kept (shared q ∷ found_row o) ls) n md
prev_kept q None ls n md h = one_kept q ls n md h
prev_kept q (Some e) ls n md h = elim h [ inl p ↦ inl p | inr t ↦ inr (one_kept (At e.0) ls n md t) ]

pub cases_access : (a : Access) (m : IndexMap) (ls : List Lock) → IsStill a m ls ⊎ ((c : Change) × Makes a m ls c)
cases_access (Fetch k) m ls = inl (record { nothing = refl; keeps = one_kept (there_or_next m k) ls })
cases_access (Seek k) m ls = inl (record { nothing = refl; keeps = one_kept (name_of (first (From k) m)) ls })
cases_access (Next k) m ls = inl (record { nothing = refl; keeps = one_kept (next_name m k) ls })
cases_access (Prev k) m ls = inl (record { nothing = refl; keeps = prev_kept (name_of (first (From k) m)) (last_below k m) ls })
cases_access (Scan lo hi l) m ls = inl (record { nothing = refl; keeps = go (is_below hi lo) refl })
  where
    go : (b : Bool) → is_below hi lo ≡ b → (n : Name) (md : Mode) → Asks (cond b [] (scan_row lo hi (limit_of l) m)) n md → Holds (kept (cond b [] (scan_row lo hi (limit_of l) m)) ls) n md
    go true e n md h = absurd h
    go false e n md h =
        subst (λ (qs : List Request). Asks qs n md → Holds (kept qs ls) n md) (sym (row-steps lo hi (limit_of l) m e)) (row_by-kept (limit_of l) (From lo) hi m ls n md) h
cases_access (Insert k r) m ls = go (get m k) refl
  where
    go : (o : Option ℕ) → get m k ≡ o → IsStill (Insert k r) m ls ⊎ ((c : Change) × Makes (Insert k r) m ls c)
    go None e = inr (
      Put k r,
      record {
        change = rw e;
        before = e;
        asks = rw e (inl (sym (guard-absent m k e), refl));
        owns = rw e (inl (refl, refl));
        alone = λ x h. h;
        itself = refl;
      },
    )
    go (Some v) e = inl (record { nothing = rw e; keeps = rw e (one_kept (At k) ls) })
cases_access (Delete k) m ls = go (get m k) refl
  where
    go : (o : Option ℕ) → get m k ≡ o → IsStill (Delete k) m ls ⊎ ((c : Change) × Makes (Delete k) m ls c)
    go None e = inl (record { nothing = rw e; keeps = rw e (one_kept (next_name m k) ls) })
    go (Some v) e = inr (
      Drop k v,
      record {
        change = rw e;
        before = e;
        asks = rw e (inr (inl (sym (guard-there m k v e), refl)));
        owns = rw e (inl (refl, refl));
        alone = λ x h. h;
        itself = refl;
      },
    )
