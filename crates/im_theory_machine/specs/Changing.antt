-- The lock table beside a view in which an Insert goes on, and keeps a lock on the next name until its structure change ends.
use Rattle.std.specs.Prelude.{◌≡◌, ◌≢◌, ℕ, List, [], ◌∷◌, Some, None}
use Rattle.std.specs.FinMap.{get}
use Rattle.im_base_types.specs.Keys.{Key}
use Rattle.im_base_types.specs.Maps.{IndexMap}
use Rattle.im_base_types.specs.Answers.{Access, Insert, Do, Continue, Blocked, Die, Inserted, More, Going, MustRollBack, answer}
use Rattle.im_theory_machine.specs.Locks.{Request, At, SameLocks}
use Rattle.im_theory_machine.specs.declared.lock_kind.Mode.TheVariants.{Exclusive}
use Rattle.im_theory_machine.specs.declared.lock_kind.Duration.TheVariants.{ToFinish, ToCommit}
use Rattle.im_theory_machine.specs.Rows.{next_name, asked}
use Rattle.im_theory_machine.specs.Table.{Table, held_of, locks_of, lasting_of, Decides, HasFallen}
use Rattle.im_theory_machine.specs.View.{View, Puts, locks_in, own_locks, did, locked, marked, with_change, change_made}
use Rattle.im_theory_machine.specs.Machine.{Goes}
use Rattle.im_theory_machine.specs.Kept.{IsPending}
use Rattle.im_theory_machine.specs.Serving.{KeepsNone, Matches}
use Rattle.im_theory_machine.specs.declared.verdict.Verdict.{Verdict}
use Rattle.im_theory_machine.specs.declared.verdict.Verdict.TheVariants.{Granted, Wait, Die as MustDie}

-- What lasts in the table is what each transaction of the view holds until it ends; all that it holds there is what it holds in the view.
pub record MatchesWithKept (v : View) (table : Table) : Type 0 where
  pub lasting : (s : ℕ) → own_locks v s ≡ lasting_of table s
  pub held : (s : ℕ) → SameLocks (locks_in v s) (locks_of table s)

-- no lock of the table falls back
abbrev pub NoneFalls : Table → Type 0
NoneFalls table = (s : ℕ) → (held_of table s).falling ≡ []

-- what an Insert asks that ends in a later step: the next name until its structure change ends, and the key
abbrev pub asked_begun : Key → IndexMap → List Request
asked_begun k m = record { name = next_name m k; mode = Exclusive; duration = ToFinish } ∷ record { name = At k; mode = Exclusive; duration = ToCommit } ∷ []

-- the step of the machine that a verdict stands for, and the view that goes with the table after it
abbrev pub GoesWithKept : View → ℕ → Access → Verdict → Table → Type 0
GoesWithKept v t a Granted new = Goes v (Do t a) (answer a v.walk) (did v t a (lasting_of new t)) × MatchesWithKept (did v t a (lasting_of new t)) new
GoesWithKept v t a (Wait holder) new = Goes v (Do t a) (Blocked holder) v × MatchesWithKept v new
GoesWithKept v t a MustDie new = Goes v (Do t a) Die (marked v t MustRollBack) × MatchesWithKept (marked v t MustRollBack) new

-- the table's durations are those of the machine's locks
pub record ChangesServe : Type 0 where
  -- with nobody who keeps a lock for an Insert, and none that falls back, it is what is said of the two other durations
  pub with_none : (v : View) (table : Table) → Matches v table → NoneFalls table → MatchesWithKept v table
  pub as_before : (v : View) (table : Table) → MatchesWithKept v table → NoneFalls table → KeepsNone v.under → Matches v table
  -- an Insert that ends in a later step begins
  pub begins : (v : View) (old new : Table) → MatchesWithKept v old → (t : ℕ) (k : Key) (r : ℕ) → (v.txns t).mark ≡ Going → v.under ≡ None → get v.walk k ≡ None → Decides old t (asked_begun k v.walk) Granted new
      → Goes v (Do t (Insert k r)) More (with_change (locked v t (lasting_of new t)) t (Puts k r)) × MatchesWithKept (with_change (locked v t (lasting_of new t)) t (Puts k r)) new
  -- others go on beside it
  pub decided : (v : View) (old new : Table) → MatchesWithKept v old → (t : ℕ) (a : Access) (verdict : Verdict) → (v.txns t).mark ≡ Going
      → ((u : ℕ) (k : Key) (r : ℕ) → v.under ≡ Some (record { owner = u; aim = Puts k r }) → (t ≢ u) × IsPending v.txns v.walk u k)
      → Decides old t (asked a v.walk) verdict new → GoesWithKept v t a verdict new
  -- it ends, and its lock on the next name falls back
  pub ends : (v : View) (old new : Table) → MatchesWithKept v old → (t : ℕ) (k : Key) (r : ℕ) → (v.txns t).mark ≡ Going → v.under ≡ Some (record { owner = t; aim = Puts k r }) → HasFallen old t new
      → Goes v (Continue t) Inserted (change_made (did v t (Insert k r) (own_locks v t))) × MatchesWithKept (change_made (did v t (Insert k r) (own_locks v t))) new
