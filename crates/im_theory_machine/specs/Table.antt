-- The lock table as one value, and what its calls promise.
use Rattle.std.specs.Prelude.{◌≡◌, ◌≢◌, ℕ, Bool, true, false, List, [], ◌∷◌, ◌++◌, cond, nat_eq}
use Rattle.im_theory_machine.specs.Locks.{Request, Lock, kept, held_now, SameLocks, IsFree, WaitsFor, MustDie}
use Rattle.im_theory_machine.specs.declared.verdict.Verdict.{Verdict}
use Rattle.im_theory_machine.specs.declared.verdict.Verdict.TheVariants.{Granted, Wait, Die}

-- the locks of one owner
pub record Held : Type 0 where
  pub lasting : List Lock  -- until they are released
  pub falling : List Lock  -- until its structure change ends

-- all of them
abbrev pub all_of : Held → List Lock
all_of h = h.lasting ++ h.falling

abbrev pub nothing_held : Held
nothing_held = record { lasting = []; falling = [] }

-- who holds which locks: each owner once
abbrev pub Table : Type 0
Table = List (ℕ × Held)

-- what s holds
abbrev pub held_of : Table → ℕ → Held
held_of [] s = nothing_held
held_of (e ∷ es) s = cond (nat_eq s e.0) e.1 (held_of es s)

-- the locks that s holds
abbrev pub locks_of : Table → ℕ → List Lock
locks_of table s = all_of (held_of table s)

-- those of them that last until they are released
abbrev pub lasting_of : Table → ℕ → List Lock
lasting_of table s = (held_of table s).lasting

-- everybody but t holds the same lists of locks
abbrev pub OthersKeep : Table → ℕ → Table → Type 0
OthersKeep old t new = (s : ℕ) → s ≢ t → held_of new s ≡ held_of old s

-- everybody holds the same lists of locks
abbrev pub SameHeld : Table → Table → Type 0
SameHeld old new = (s : ℕ) → held_of new s ≡ held_of old s

-- everybody holds the same list of locks
abbrev pub SameTable : Table → Table → Type 0
SameTable old new = (s : ℕ) → locks_of new s ≡ locks_of old s

-- for everybody the same list of locks lasts
abbrev pub SameLasting : Table → Table → Type 0
SameLasting old new = (s : ℕ) → lasting_of new s ≡ lasting_of old s

-- t holds what it held and what was asked to be kept, of which what was asked to commit lasts, and everybody else what it held
pub record IsGrown (old : Table) (t : ℕ) (asked : List Request) (new : Table) : Type 0 where
  pub own : SameLocks (locks_of new t) (held_now asked (locks_of old t))
  pub lasting : SameLocks (lasting_of new t) (kept asked (lasting_of old t))
  pub others : OthersKeep old t new

-- the verdict on what t asks, and the table after it
abbrev pub Decides : Table → ℕ → List Request → Verdict → Table → Type 0
Decides old t asked Granted new = IsFree (locks_of old) t asked × IsGrown old t asked new
Decides old t asked (Wait holder) new = WaitsFor (locks_of old) t asked holder × (new ≡ old)
Decides old t asked Die new = MustDie (locks_of old) t asked × (new ≡ old)

-- t holds what lasts and nothing else, and everybody else what it held
pub record HasFallen (old : Table) (t : ℕ) (new : Table) : Type 0 where
  pub own : locks_of new t ≡ lasting_of old t
  pub lasting : lasting_of new t ≡ lasting_of old t
  pub others : OthersKeep old t new

-- t holds nothing, and everybody else what it held
pub record IsReleased (old : Table) (t : ℕ) (new : Table) : Type 0 where
  pub none : locks_of new t ≡ []
  pub others : OthersKeep old t new

-- those for whom the test holds hold nothing, and everybody else what it held
pub record AreReleased (old : Table) (gone : ℕ → Bool) (new : Table) : Type 0 where
  pub none : (s : ℕ) → gone s ≡ true → locks_of new s ≡ []
  pub others : (s : ℕ) → gone s ≡ false → held_of new s ≡ held_of old s
