-- Names, requests and locks, when two locks conflict, and what wait-die says.
use Rattle.std.specs.Prelude.{◌≡◌, ◌≢◌, ℕ, ◌<◌, ◌≤◌, List, [], ◌∷◌, ◌⊎◌, ◌↔◌}
use Rattle.im_base_types.specs.Keys.{Key}
use Rattle.im_theory_machine.specs.declared.lock_kind.Mode.{Mode}
use Rattle.im_theory_machine.specs.declared.lock_kind.Mode.TheVariants.{Exclusive}
use Rattle.im_theory_machine.specs.declared.lock_kind.Duration.{Duration}
use Rattle.im_theory_machine.specs.declared.lock_kind.Duration.TheVariants.{Instant, ToFinish, ToCommit}

-- what a lock is on: a key, or the name past the last key
pub data Name : Type 0 where
  At : (key : Key) → Name
  PastAll : Name

-- one lock that a step asks
pub record Request : Type 0 where
  pub name : Name
  pub mode : Mode
  pub duration : Duration

-- one lock that is held
pub record Lock : Type 0 where
  pub name : Name
  pub mode : Mode

-- a lock of commit duration is kept, one for the instant or to the end of a structure change is not
abbrev pub kept_if : Duration → Lock → List Lock → List Lock
kept_if Instant l ls = ls
kept_if ToFinish l ls = ls
kept_if ToCommit l ls = l ∷ ls

-- the locks that last after the requests were granted
abbrev pub kept : List Request → List Lock → List Lock
kept [] ls = ls
kept (q ∷ qs) ls = kept_if q.duration (record { name = q.name; mode = q.mode }) (kept qs ls)

-- a lock is held at first, unless it is for the instant
abbrev pub held_if : Duration → Lock → List Lock → List Lock
held_if Instant l ls = ls
held_if ToFinish l ls = l ∷ ls
held_if ToCommit l ls = l ∷ ls

-- the locks held after the requests were granted, until those fall back that do not last
abbrev pub held_now : List Request → List Lock → List Lock
held_now [] ls = ls
held_now (q ∷ qs) ls = held_if q.duration (record { name = q.name; mode = q.mode }) (held_now qs ls)

-- the name is among these locks, in this mode
abbrev pub Holds : List Lock → Name → Mode → Type 0
Holds [] n m = ⊥
Holds (l ∷ ls) n m = ((l.name ≡ n) × (l.mode ≡ m)) ⊎ Holds ls n m

-- the name is among these requests, in this mode
abbrev pub Asks : List Request → Name → Mode → Type 0
Asks [] n m = ⊥
Asks (q ∷ qs) n m = ((q.name ≡ n) × (q.mode ≡ m)) ⊎ Asks qs n m

-- the same locks, in whatever order and however often
abbrev pub SameLocks : List Lock → List Lock → Type 0
SameLocks ls ks = (n : Name) (m : Mode) → Holds ls n m ↔ Holds ks n m

-- s holds a lock against what t asks: equal names, different owners, one of the two exclusive
pub record ConflictsWith (locks : ℕ → List Lock) (t : ℕ) (row : List Request) (s : ℕ) : Type 0 where
  pub name : Name
  pub mode : Mode
  pub theirs : Mode
  pub other : s ≢ t
  pub ask : Asks row name mode
  pub held : Holds (locks s) name theirs
  pub exclusive : (mode ≡ Exclusive) ⊎ (theirs ≡ Exclusive)

-- nobody holds a lock against what t asks
abbrev pub IsFree : (ℕ → List Lock) → ℕ → List Request → Type 0
IsFree locks t row = (s : ℕ) → ConflictsWith locks t row s → ⊥

-- the requester is below every holder in conflict, of which this is the smallest
pub record WaitsFor (locks : ℕ → List Lock) (t : ℕ) (row : List Request) (holder : ℕ) : Type 0 where
  pub conflict : ConflictsWith locks t row holder
  pub smallest : (s : ℕ) → ConflictsWith locks t row s → holder ≤ s
  pub older : t < holder

-- some holder in conflict is below the requester
pub record MustDie (locks : ℕ → List Lock) (t : ℕ) (row : List Request) : Type 0 where
  pub holder : ℕ
  pub conflict : ConflictsWith locks t row holder
  pub older : holder < t
