-- What the machine sees of transactions over one map, and what each step leaves of it.
use Rattle.std.specs.Prelude.{◌≡◌, ℕ, suc, ◌-◌, ◌==◌, ◌||◌, Bool, true, false, cond, Option, None, Some, is_some, List, [], ◌∷◌, ◌++◌, length, ◌⊎◌}
use Rattle.im_base_types.specs.Keys.{Key}
use Rattle.im_base_types.specs.Maps.{IndexMap}
use Rattle.im_base_types.specs.Changes.{Change, Effect, apply, apply_all, undone}
use Rattle.im_base_types.specs.Answers.{Access, Insert, Delete, Step, Begin, Do, Commit, Rollback, Continue, RollTo, FlushPage, Force, Checkpoint, Switch, changes, map_after, Mark, Idle, Going, MustRollBack, Committing}
use Rattle.im_theory_machine.specs.Locks.{Lock}
use Rattle.im_theory_machine.specs.Rows.{next_name}
use Rattle.im_theory_machine.specs.declared.lock_kind.Mode.TheVariants.{Exclusive}

-- a transaction; while it is not rolling back, its net is its effect
pub record Txn : Type 0 where
  pub mark : Mark
  pub net : List Change  -- made and not taken back, newest first
  pub locks : List Lock

-- what a structure change is for that is made page by page, in several steps
pub data Aim : Type 0 where
  -- an entry is put in when it ends
  Puts : (key : Key) (rid : ℕ) → Aim
  -- a key was dropped, and the leaf that it left empty goes
  Drops : (key : Key) → Aim
  -- the newest change of its owner is taken back when it ends
  TakesBack : Aim
  -- it was taken back, and the leaf that it left empty goes
  TookBack : Aim

pub record Under : Type 0 where
  pub owner : ℕ  -- the transaction that goes on with it
  pub aim : Aim

abbrev pub owner_of : Option Under → Option ℕ
owner_of None = None
owner_of (Some u) = Some u.owner

-- the transactions over one map, between two steps
pub record View : Type 0 where
  pub committed : IndexMap
  pub walk : IndexMap  -- what the tree holds, changed in place
  pub next : ℕ
  pub active : ℕ  -- how many transactions are not idle
  pub failed : Bool
  pub txns : ℕ → Txn
  pub queue : List ℕ  -- whose Commit is logged and waits for a force, in the order of their Commits
  pub under : Option Under  -- the structure change under way

-- whose structure change is under way
abbrev pub owner_in : View → Option ℕ
owner_in v = owner_of v.under

-- what a transaction holds until it ends
abbrev pub own_locks : View → ℕ → List Lock
own_locks v s = (v.txns s).locks

-- the lock on the next name, which an Insert that goes on keeps until its key is put in
abbrev pub kept_for : Aim → IndexMap → List Lock
kept_for (Puts k r) w = record { name = next_name w k; mode = Exclusive } ∷ []
kept_for (Drops k) w = []
kept_for TakesBack w = []
kept_for TookBack w = []

abbrev pub kept_lock : Option Under → IndexMap → ℕ → List Lock
kept_lock None w s = []
kept_lock (Some u) w s = cond (u.owner == s) (kept_for u.aim w) []

-- who holds which locks
abbrev pub locks_in : View → ℕ → List Lock
locks_in v s = kept_lock v.under v.walk s ++ own_locks v s

-- the access that a structure change is for, which its last step answers
abbrev pub pending_for : Aim → Option Access
pending_for (Puts k r) = Some (Insert k r)
pending_for (Drops k) = Some (Delete k)
pending_for TakesBack = None
pending_for TookBack = None

-- the Insert or Delete of t that goes on
abbrev pub pending_of : Option Under → ℕ → Option Access
pending_of None t = None
pending_of (Some u) t = cond (u.owner == t) (pending_for u.aim) None

-- an Insert or a Delete of the step's transaction goes on
abbrev pub owns_in : Option Under → Step → Bool
owns_in under Begin = false
owns_in under (Do t a) = is_some (pending_of under t)
owns_in under (Commit t) = is_some (pending_of under t)
owns_in under (Rollback t) = is_some (pending_of under t)
owns_in under (Continue t) = is_some (pending_of under t)
owns_in under (RollTo t n) = is_some (pending_of under t)
owns_in under (FlushPage p) = false
owns_in under Force = false
owns_in under Checkpoint = false
owns_in under Switch = false

-- a transaction that is not active
abbrev pub idle : Txn
idle = record { mark = Idle; net = []; locks = [] }

-- the transactions with that of t set
abbrev pub set_txn : (ℕ → Txn) → ℕ → Txn → ℕ → Txn
set_txn txns t x s = cond (s == t) x (txns s)

-- the next number is given to a new transaction
abbrev pub begun : View → View
begun v = record v { next = suc v.next; active = suc v.active; txns = set_txn v.txns v.next (record idle { mark = Going }) }

-- a transaction after an access on the map w: its net has the change, and it holds these locks
abbrev pub did_txn : Txn → Access → IndexMap → List Lock → Txn
did_txn x a w ls = record { mark = Going; net = changes a w ++ x.net; locks = ls }

-- after an access of t: the map is changed in place
abbrev pub did : View → ℕ → Access → List Lock → View
did v t a ls = record v { walk = map_after a v.walk; txns = set_txn v.txns t (did_txn (v.txns t) a v.walk ls) }

-- t is marked
abbrev pub marked : View → ℕ → Mark → View
marked v t m = record v { txns = set_txn v.txns t (record (v.txns t) { mark = m }) }

-- the committed map takes the net of t, and t holds nothing
abbrev pub committed_by : View → ℕ → View
committed_by v t = record v { committed = apply v.committed ((v.txns t).net); active = v.active - 1; txns = set_txn v.txns t idle }

-- ---- Commits that wait for a force

abbrev pub is_among : ℕ → List ℕ → Bool
is_among s [] = false
is_among s (t ∷ ts) = (s == t) || is_among s ts

-- each once
abbrev pub AreDifferent : List ℕ → Type 0
AreDifferent [] = Unit {0}
AreDifferent (t ∷ ts) = (is_among t ts ≡ false) × AreDifferent ts

-- the nets of these, in their order
abbrev pub nets_of : (ℕ → Txn) → List ℕ → List Effect
nets_of txns [] = []
nets_of txns (t ∷ ts) = (txns t).net ∷ nets_of txns ts

-- the committed map after these, one after another
abbrev pub map_behind : IndexMap → (ℕ → Txn) → List ℕ → IndexMap
map_behind base txns ts = apply_all base (nets_of txns ts)

-- they are active no more
abbrev pub idle_all : (ℕ → Txn) → List ℕ → ℕ → Txn
idle_all txns [] = txns
idle_all txns (t ∷ ts) = idle_all (set_txn txns t idle) ts

-- the Commit of t is logged, and waits: it keeps its net and its locks
abbrev pub queued : View → ℕ → View
queued v t = record v { txns = set_txn v.txns t (record (v.txns t) { mark = Committing }); queue = v.queue ++ t ∷ [] }

-- a force has finished all that waited, in the order of their Commits
abbrev pub forced_by : View → View
forced_by v = record v { committed = map_behind v.committed v.txns v.queue; active = v.active - length v.queue; txns = idle_all v.txns v.queue; queue = [] }

-- t changed nothing, or nothing any more, and holds nothing
abbrev pub dropped_by : View → ℕ → View
dropped_by v t = record v { active = v.active - 1; txns = set_txn v.txns t idle }

-- the structure change under way, unless t has it
abbrev pub of_others : ℕ → Option Under → Option Under
of_others t None = None
of_others t (Some u) = cond (u.owner == t) None (Some u)

-- the newest change of t is taken back, and others are left
abbrev pub undid_more : View → ℕ → Change → List Change → View
undid_more v t c cs = record v { walk = undone v.walk c; txns = set_txn v.txns t (record (v.txns t) { net = cs }); under = of_others t v.under }

-- the last change of t is taken back, and t holds nothing
abbrev pub undid_last : View → ℕ → Change → View
undid_last v t c = record v { walk = undone v.walk c; active = v.active - 1; txns = set_txn v.txns t idle; under = of_others t v.under }

-- ---- structure changes that are made page by page

-- t has one under way
abbrev pub with_change : View → ℕ → Aim → View
with_change v t aim = record v { under = Some (record { owner = t; aim = aim }) }

-- it is made
abbrev pub change_made : View → View
change_made v = record v { under = None }

-- t has its locks, and has changed nothing yet
abbrev pub locked : View → ℕ → List Lock → View
locked v t ls = record v { txns = set_txn v.txns t (record (v.txns t) { locks = ls }) }

-- other locks may be left where the engine fails
abbrev pub relocked : View → (ℕ → List Lock) → View
relocked v ls = record v { txns = λ s. record (v.txns s) { locks = ls s } }

-- the engine has failed, and may have left any locks; maps, nets and marks stay as they were
abbrev pub broken : View → (ℕ → List Lock) → View
broken v ls = record v { failed = true; txns = λ s. record (v.txns s) { locks = ls s } }

-- a transaction that may be rolled back
abbrev pub MayRollBack : Mark → Type 0
MayRollBack m = (m ≡ Going) ⊎ (m ≡ MustRollBack)
