-- An Insert that ends in a later step, and the lock on the next name that is kept for it till then.
use Rattle.std.specs.Prelude.{◌≡◌, ◌≢◌, ℕ, ◌==◌, false, cond, List, [], ◌∷◌, ◌++◌, Some, None}
use Rattle.std.specs.FinMap.{get}
use Rattle.im_base_types.specs.Keys.{Key}
use Rattle.im_base_types.specs.Maps.{IndexMap, From, first}
use Rattle.im_base_types.specs.Answers.{Access, Insert, map_after}
use Rattle.im_base_types.specs.Changes.{Change, key_of, undone}
use Rattle.im_theory_machine.specs.Locks.{Name, At, Lock, kept, SameLocks, Holds, IsFree}
use Rattle.im_theory_machine.specs.declared.lock_kind.Mode.{Mode}
use Rattle.im_theory_machine.specs.declared.lock_kind.Mode.TheVariants.{Exclusive}
use Rattle.im_theory_machine.specs.Rows.{name_of, next_name, asked}
use Rattle.im_theory_machine.specs.View.{Txn, View, Puts, set_txn, did_txn}
use Rattle.im_theory_machine.specs.Machine.{IsReached}

-- who holds which locks, with the one on this name that t keeps for its Insert
abbrev pub with_kept : (ℕ → Txn) → ℕ → Name → ℕ → List Lock
with_kept f t n s = cond (t == s) (record { name = n; mode = Exclusive } ∷ []) [] ++ (f s).locks

-- nobody but t holds the name
abbrev pub IsAlone : (ℕ → Txn) → ℕ → Name → Type 0
IsAlone f t n = (s : ℕ) → s ≢ t → (md : Mode) → Holds ((f s).locks) n md → ⊥

-- The Insert of key k by t goes on: the key is not there, t holds it exclusively, and nobody else holds the key or the next name.
pub record IsPending (f : ℕ → Txn) (w : IndexMap) (t : ℕ) (k : Key) : Type 0 where
  pub absent : get w k ≡ None
  pub owns : Holds ((f t).locks) (At k) Exclusive
  pub next : IsAlone f t (next_name w k)
  pub key : IsAlone f t (At k)

-- what an Insert that goes on lives through, and what it ends in
pub record KeptLocksStay : Type 0 where
  -- it begins with the grant of what the Insert asks
  pub begins : (f : ℕ → Txn) (w : IndexMap) (t : ℕ) (k : Key) (r : ℕ) (ls : List Lock) → IsFree (λ s. (f s).locks) t (asked (Insert k r) w) → get w k ≡ None
      → SameLocks ls (kept (asked (Insert k r) w) ((f t).locks)) → IsPending (set_txn f t (record (f t) { locks = ls })) w t k
  -- an access of another, granted beside the kept lock, leaves it as it is, and the kept name is still the next one
  pub access : (f : ℕ → Txn) (w : IndexMap) (t u : ℕ) (k : Key) (a : Access) (ls : List Lock) → IsPending f w t k → u ≢ t → IsFree (with_kept f t (next_name w k)) u (asked a w)
      → SameLocks ls (kept (asked a w) ((f u).locks)) → IsPending (set_txn f u (did_txn (f u) a w ls)) (map_after a w) t k × (next_name (map_after a w) k ≡ next_name w k)
  -- so does a change of another that is taken back, who holds the name that guards its key
  pub undo : (f : ℕ → Txn) (w : IndexMap) (t u : ℕ) (k : Key) (c : Change) → IsPending f w t k → u ≢ t → Holds ((f u).locks) (name_of (first (From (key_of c)) w)) Exclusive
      → IsPending f (undone w c) t k × (next_name (undone w c) k ≡ next_name w k)
  -- in the end what the Insert asks is free, so that it is granted as if it were asked then
  pub grants : (f : ℕ → Txn) (w : IndexMap) (t : ℕ) (k : Key) (r : ℕ) → IsPending f w t k → IsFree (λ s. (f s).locks) t (asked (Insert k r) w)
  -- what is free beside the kept lock is free without it
  pub weaker : (f : ℕ → Txn) (t u : ℕ) (n : Name) (a : Access) (w : IndexMap) → IsFree (with_kept f t n) u (asked a w) → IsFree (λ s. (f s).locks) u (asked a w)

-- Between any two steps an Insert that goes on finds its key absent, and what it asks free.
abbrev pub PendingInsertsAreGranted : Type 0
PendingInsertsAreGranted = (base : IndexMap) (v : View) → IsReached base v → v.failed ≡ false → (t : ℕ) (k : Key) (r : ℕ) → v.under ≡ Some (record { owner = t; aim = Puts k r })
    → IsPending v.txns v.walk t k × IsFree (λ s. (v.txns s).locks) t (asked (Insert k r) v.walk)
