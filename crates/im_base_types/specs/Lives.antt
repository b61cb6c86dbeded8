-- What lives may make of a store, by their steps and replies alone.
use Rattle.std.specs.Prelude.{◌≡◌, ℕ, nat_lt, List, [], ◌∷◌, ◌++◌, length, Bool, true, false, ◌||◌, if◌then◌else◌, ◌==◌, Option, None, Some}
use Rattle.im_base_types.specs.Changes.{Change, Put, Drop, Effect}
use Rattle.im_base_types.specs.Answers.{Access, Insert, Delete, Step, Begin, Do, Commit, Rollback, Continue, RollTo, Force, Reply, Started, Inserted, Deleted, Committed, RolledBack, More, Die, Done, Refused, Mark, Idle, Going, MustRollBack, RollingBack, Returning, Committing}
use Rattle.im_base_types.specs.Refusals.{capacity, log_full, device, memory, failed, not_a_store, unfinished}

-- ---- what the steps and replies of a life show so far

-- a transaction: its mark, and its effect as users see it
pub record Running : Type 0 where
  pub mark : Mark
  pub effect : Effect
  -- its Insert or Delete that was answered More: a later reply to Continue ends it
  pub pending : Option Access

-- an effect whose Commit was asked, and whether it was acknowledged
pub record Asked : Type 0 where
  pub txn : ℕ
  pub effect : Effect
  pub acked : Bool

pub record Shown : Type 0 where
  pub failed : Bool
  pub running : ℕ → Running
  -- in the order of the Commit steps
  pub asked : List Asked

abbrev pub idle : Running
idle = record { mark = Idle; effect = []; pending = None }

-- as an opening leaves it
abbrev pub nothing_shown : Shown
nothing_shown = record { failed = false; running = λ t. idle; asked = [] }

-- one transaction set
abbrev pub with_running : ℕ → Running → Shown → Shown
with_running t x s = record s { running = λ u. if u == t then x else s.running u }

abbrev pub shows_mark : ℕ → Mark → Shown → Shown
shows_mark t m s = with_running t (record (s.running t) { mark = m }) s

abbrev pub adds : ℕ → Change → Shown → Shown
adds t c s = with_running t (record (s.running t) { effect = c ∷ (s.running t).effect }) s

-- an Insert or a Delete goes on
abbrev pub pends : ℕ → Access → Shown → Shown
pends t a s = with_running t (record (s.running t) { pending = Some a }) s

-- the change that an access shows with the reply that ends it
abbrev pub shown_change : Option Access → Reply → Effect
shown_change (Some (Insert k r)) Inserted = Put k r ∷ []
shown_change (Some (Delete k)) Deleted = Drop k 0 ∷ []
shown_change _ _ = []

-- the access that went on is answered
abbrev pub finishes : ℕ → Reply → Shown → Shown
finishes t reply s = with_running t (record (s.running t) { effect = shown_change ((s.running t).pending) reply ++ (s.running t).effect; pending = None }) s

-- a Commit asks for an effect where the transaction is going, and logged something
abbrev pub effect_asked : ℕ → Bool → Mark → Effect → List Asked
effect_asked t acked Going (c ∷ cs) = record { txn = t; effect = c ∷ cs; acked = acked } ∷ []
effect_asked t acked _ _ = []

-- a Commit is asked
abbrev pub asks : ℕ → Bool → Shown → Shown
asks t acked s = record s { asked = s.asked ++ effect_asked t acked (s.running t).mark (s.running t).effect }

-- the refusals after which the engine has failed
abbrev pub breaks : ℕ → Bool
breaks n = n == capacity || n == log_full || n == device || n == failed || n == not_a_store

-- a refusal: a Commit that was refused is asked all the same, but of a failed engine, for want of memory, or within a structure change
abbrev pub refused : ℕ → Step → Shown → Shown
refused n (Commit t) s =
    if s.failed || n == memory || n == unfinished then s
    else record (asks t false s) { failed = breaks n }
refused n _ s = record s { failed = s.failed || breaks n }

-- a reply to an access: a change joins its transaction's effect, More to an Insert or a Delete lets it go on, and Die, to any access, marks its transaction
abbrev pub accessed : ℕ → Access → Reply → Shown → Shown
accessed t (Insert k r) Inserted s = adds t (Put k r) s
accessed t (Delete k) Deleted s = adds t (Drop k 0) s
accessed t (Insert k r) More s = pends t (Insert k r) s
accessed t (Delete k) More s = pends t (Delete k) s
accessed t a Die s = shows_mark t MustRollBack s
accessed t a _ s = s

-- of an effect, the newest change first, its oldest n changes: all of one of no more
abbrev pub oldest : ℕ → Effect → Effect
oldest n [] = []
oldest n (c ∷ cs) = if nat_lt n (length (c ∷ cs)) then oldest n cs else c ∷ cs

-- a transaction takes back all but its oldest n changes
abbrev pub returns : ℕ → ℕ → Shown → Shown
returns t n s = with_running t (record (s.running t) { mark = Returning n; effect = oldest n (s.running t).effect }) s

-- every Commit that waited for a force
abbrev pub all_acked : List Asked → List Asked
all_acked [] = []
all_acked (a ∷ more) = record a { acked = true } ∷ all_acked more

-- what is shown once a step was answered
abbrev pub answered : Step → Reply → Shown → Shown
answered step (Refused n) s = refused n step s
answered Begin (Started t) s = with_running t (record { mark = Going; effect = []; pending = None }) s
answered (Do t a) reply s = accessed t a reply s
answered (Commit t) Committed s = with_running t idle (asks t true s)
answered (Commit t) More s = shows_mark t Committing (asks t false s)
answered (Rollback t) RolledBack s = with_running t idle s
answered (Rollback t) More s = shows_mark t RollingBack s
answered (RollTo t n) Done s = shows_mark t Going s
answered (RollTo t n) More s = returns t n s
answered (Continue t) Done s = shows_mark t Going s
answered (Continue t) RolledBack s = with_running t idle s
answered (Continue t) Inserted s = finishes t Inserted s
answered (Continue t) Deleted s = finishes t Deleted s
answered Force Done s = record s { asked = all_acked s.asked }
answered _ _ s = s

-- what is shown where the stop fell within a step: a Commit is asked, its answer is not known
abbrev pub cut_off : Step → Shown → Shown
cut_off (Commit t) s = if s.failed then s else asks t false s
cut_off _ s = s

-- what is shown after a step, with its reply, or None where the stop fell within it
abbrev pub shows : Shown → Step → Option Reply → Shown
shows s step (Some reply) = answered step reply s
shows s step None = cut_off step s

-- what is shown after steps that were all answered
abbrev pub shown_by : Shown → List (Step × Reply) → Shown
shown_by s [] = s
shown_by s (x ∷ xs) = shown_by (shows s x.0 (Some x.1)) xs

-- ---- what a life may add

abbrev pub effects : List Asked → List Effect
effects [] = []
effects (a ∷ more) = a.effect ∷ effects more

abbrev pub NoneAcked : List Asked → Type 0
NoneAcked [] = Unit {0}
NoneAcked (a ∷ more) = (a.acked ≡ false) × NoneAcked more

-- One life: the effects before it, then a front of those asked in it that holds each acknowledged one.
pub record Survives (before : List Effect) (asked : List Asked) (after : List Effect) : Type 0 where
  pub kept : List Asked
  pub lost : List Asked
  pub all : kept ++ lost ≡ asked
  pub no_ack_lost : NoneAcked lost
  pub is : after ≡ before ++ effects kept

-- Several lives, one after another.
abbrev pub Lives : List Effect → List (List Asked) → List Effect → Type 0
Lives before [] after = after ≡ before
Lives before (asked ∷ lives) after = (between : List Effect) × Survives before asked between × Lives between lives after

-- ---- lives of a store, over whatever its files are. `StandsFor` says which effects files stand for

-- the files stand for what a life that asked this may make of these effects
abbrev pub StandsForMore : {F : Type 0} → (List Effect → F → Type 0) → List Effect → List Asked → F → Type 0
StandsForMore StandsFor before asked files = (after : List Effect) × Survives before asked after × StandsFor after files
