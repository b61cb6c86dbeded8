-- The machine of transactions over one map with locks: which reply it may give to a step, and what is then.
use Rattle.std.specs.Prelude.{◌≡◌, ◌≢◌, ◌≤◌, ◌<◌, ◌^◌, ℕ, ◌==◌, nat_lt, Bool, true, false, not, ◌&&◌, cond, List, [], ◌∷◌, length, Option, Some, None, ◌⊎◌}
use Rattle.std.specs.FinMap.{get}
use Rattle.im_base_types.specs.Keys.{Key}
use Rattle.im_base_types.specs.Maps.{IndexMap}
use Rattle.im_base_types.specs.Changes.{Change}
use Rattle.im_base_types.specs.Refusals.{no_transaction, must_roll_back, key_length, rolling_back, pages_full, capacity, log_full, device, memory, failed as has_failed, too_many, busy, unfinished}
use Rattle.im_base_types.specs.Answers.{Access, Fetch, Seek, Next, Prev, Scan, Insert, Delete, Step, Begin, Do, Commit, Rollback, Continue, RollTo, FlushPage, Force, Checkpoint, Switch, Reply, Started, Inserted, Deleted, Committed, RolledBack, More, Blocked, BlockedTree, Die, Done, Refused, Mark, Idle, Going, MustRollBack, RollingBack, Returning, Committing, answer}
use Rattle.im_theory_machine.specs.Locks.{Lock, kept, SameLocks, IsFree, WaitsFor, MustDie}
use Rattle.im_theory_machine.specs.Rows.{asked}
use Rattle.im_theory_machine.specs.View.{View, Under, Puts, Drops, TakesBack, TookBack, owns_in, locks_in, idle, begun, did, locked, marked, committed_by, dropped_by, undid_more, undid_last, with_change, change_made, queued, forced_by, broken, MayRollBack}

-- a key or bound of 1 to 255 bytes
abbrev pub fits : Key → Bool
fits k = not (length k == 0) && nat_lt (length k) 256

-- each key that an access names has 1 to 255 bytes
abbrev pub keys_fit : Access → Bool
keys_fit (Fetch k) = fits k
keys_fit (Seek k) = fits k
keys_fit (Next k) = fits k
keys_fit (Prev k) = fits k
keys_fit (Scan lo hi n) = fits lo && fits hi
keys_fit (Insert k r) = fits k
keys_fit (Delete k) = fits k

-- what a mark refuses, for an access and for Commit
abbrev pub barred_to : Mark → Option ℕ
barred_to Idle = Some no_transaction
barred_to Going = None
barred_to MustRollBack = Some must_roll_back
barred_to RollingBack = Some rolling_back
barred_to (Returning n) = Some rolling_back
barred_to Committing = Some no_transaction

-- the same for Rollback and RollTo
abbrev pub barred_to_rollback : Mark → Option ℕ
barred_to_rollback Idle = Some no_transaction
barred_to_rollback Going = None
barred_to_rollback MustRollBack = None
barred_to_rollback RollingBack = Some rolling_back
barred_to_rollback (Returning n) = Some rolling_back
barred_to_rollback Committing = Some no_transaction

-- the same for Continue
abbrev pub barred_to_continue : Mark → Option ℕ
barred_to_continue Idle = Some no_transaction
barred_to_continue Going = Some no_transaction
barred_to_continue MustRollBack = Some no_transaction  -- it has nothing to go on with, and that check comes first
barred_to_continue RollingBack = None
barred_to_continue (Returning n) = None
barred_to_continue Committing = Some no_transaction

-- the first refusal of two
abbrev pub or_else : Option ℕ → Option ℕ → Option ℕ
or_else None o = o
or_else (Some f) o = Some f

-- a refusal, where the test holds
abbrev pub fault_if : Bool → ℕ → Option ℕ
fault_if true f = Some f
fault_if false f = None

-- The checks that neither pages nor locks decide, in their order: the engine has failed; 64 are active, for Begin; one is, for Switch; the mark of the step's transaction; whether an
-- Insert or a Delete of it goes on, which Continue alone serves; the length of its keys.
abbrev pub first_check : (failed : Bool) (active : ℕ) (mark : Mark) (owns : Bool) → Step → Option ℕ
first_check failed active mark owns Begin = or_else (fault_if failed has_failed) (fault_if (not (nat_lt active 64)) too_many)
first_check failed active mark owns (Do t a) = or_else (fault_if failed has_failed) (or_else (barred_to mark) (or_else (fault_if owns unfinished) (fault_if (not (keys_fit a)) key_length)))
first_check failed active mark owns (Commit t) = or_else (fault_if failed has_failed) (or_else (barred_to mark) (fault_if owns unfinished))
first_check failed active mark owns (Rollback t) = or_else (fault_if failed has_failed) (or_else (barred_to_rollback mark) (fault_if owns unfinished))
first_check failed active mark owns (Continue t) = or_else (fault_if failed has_failed) (cond owns None (barred_to_continue mark))
first_check failed active mark owns (RollTo t n) = or_else (fault_if failed has_failed) (or_else (barred_to_rollback mark) (fault_if owns unfinished))
first_check failed active mark owns (FlushPage p) = fault_if failed has_failed
first_check failed active mark owns Force = fault_if failed has_failed
first_check failed active mark owns Checkpoint = fault_if failed has_failed
first_check failed active mark owns Switch = or_else (fault_if failed has_failed) (fault_if (nat_lt 0 active) busy)

-- the mark of the transaction that a step names
abbrev pub mark_for : (ℕ → Mark) → Step → Mark
mark_for marks Begin = Idle
mark_for marks (Do t a) = marks t
mark_for marks (Commit t) = marks t
mark_for marks (Rollback t) = marks t
mark_for marks (Continue t) = marks t
mark_for marks (RollTo t n) = marks t
mark_for marks (FlushPage p) = Idle
mark_for marks Force = Idle
mark_for marks Checkpoint = Idle
mark_for marks Switch = Idle

-- the refusal that the view determines, the first of its checks
abbrev pub barred : View → Step → Option ℕ
barred v step = first_check v.failed v.active (mark_for (λ t. (v.txns t).mark) step) (owns_in v.under step) step

-- Pages are wanting for an Insert, or memory, and nothing is changed. The machine does not say when: that they come only for cause is the engine's own promise.
abbrev pub Wants : Step → ℕ → Type 0
Wants (Do t (Insert k r)) f = (f ≡ pages_full) ⊎ (f ≡ memory)
Wants _ f = f ≡ memory

-- capacity, the log or the device failed, or memory within the step, and the engine with it
abbrev pub Breaks : ℕ → Type 0
Breaks f = (f ≡ capacity) ⊎ ((f ≡ log_full) ⊎ ((f ≡ device) ⊎ (f ≡ has_failed)))

-- one that may take its newest change back, so that these are left: it rolls back, or returns to no more than they are
abbrev pub MayTakeBack : Mark → List Change → Type 0
MayTakeBack m cs = (m ≡ RollingBack) ⊎ ((n : ℕ) × (m ≡ Returning n) × (n ≤ length cs))

-- from v, where no check bars the step, the machine may give this reply and go on to w
pub data Goes (v : View) (step : Step) (reply : Reply) (w : View) : Type 0 where
  begins : step ≡ Begin → v.next ≤ 2 ^ 62 → reply ≡ Started v.next → w ≡ begun v → Goes v step reply w
  does : (t : ℕ) (a : Access) (ls : List Lock) → step ≡ Do t a → (v.txns t).mark ≡ Going → IsFree (locks_in v) t (asked a v.walk) → SameLocks ls (kept (asked a v.walk) ((v.txns t).locks)) → reply ≡ answer a v.walk → w ≡ did v t a ls → Goes v step reply w
  waits : (t : ℕ) (a : Access) (holder : ℕ) → step ≡ Do t a → (v.txns t).mark ≡ Going → WaitsFor (locks_in v) t (asked a v.walk) holder → reply ≡ Blocked holder → w ≡ v → Goes v step reply w
  dies : (t : ℕ) (a : Access) → step ≡ Do t a → (v.txns t).mark ≡ Going → MustDie (locks_in v) t (asked a v.walk) → reply ≡ Die → w ≡ marked v t MustRollBack → Goes v step reply w
  -- at once: nobody waits for a force, or it changed nothing
  commits : (t : ℕ) → step ≡ Commit t → (v.txns t).mark ≡ Going → (v.queue ≡ []) ⊎ ((v.txns t).net ≡ []) → reply ≡ Committed → w ≡ committed_by v t → Goes v step reply w
  queues : (t : ℕ) (c : Change) (cs : List Change) → step ≡ Commit t → (v.txns t).mark ≡ Going → (v.txns t).net ≡ c ∷ cs → reply ≡ More → w ≡ queued v t → Goes v step reply w
  drops : (t : ℕ) → step ≡ Rollback t → MayRollBack ((v.txns t).mark) → (v.txns t).net ≡ [] → reply ≡ RolledBack → w ≡ dropped_by v t → Goes v step reply w
  turns : (t : ℕ) (c : Change) (cs : List Change) → step ≡ Rollback t → MayRollBack ((v.txns t).mark) → (v.txns t).net ≡ c ∷ cs → reply ≡ More → w ≡ marked v t RollingBack → Goes v step reply w
  undoes : (t : ℕ) (c d : Change) (cs : List Change) → step ≡ Continue t → (v.txns t).mark ≡ RollingBack → (v.txns t).net ≡ c ∷ d ∷ cs → reply ≡ More → w ≡ undid_more v t c (d ∷ cs) → Goes v step reply w
  ends : (t : ℕ) (c : Change) → step ≡ Continue t → (v.txns t).mark ≡ RollingBack → (v.txns t).net ≡ c ∷ [] → reply ≡ RolledBack → w ≡ undid_last v t c → Goes v step reply w
  -- an Insert that wants a structure change begins: it has its locks, and the key is put in when the change is made
  puts_later : (t : ℕ) (k : Key) (r : ℕ) (ls : List Lock) → step ≡ Do t (Insert k r) → (v.txns t).mark ≡ Going → v.under ≡ None → get v.walk k ≡ None → IsFree (locks_in v) t (asked (Insert k r) v.walk)
      → SameLocks ls (kept (asked (Insert k r) v.walk) ((v.txns t).locks)) → reply ≡ More → w ≡ with_change (locked v t ls) t (Puts k r) → Goes v step reply w
  puts : (t : ℕ) (k : Key) (r : ℕ) → step ≡ Continue t → (v.txns t).mark ≡ Going → v.under ≡ Some (record { owner = t; aim = Puts k r }) → reply ≡ Inserted → w ≡ change_made (did v t (Insert k r) ((v.txns t).locks)) → Goes v step reply w
  -- a Delete that leaves a leaf empty: the key is gone, and then the leaf goes
  drops_first : (t : ℕ) (k : Key) (r : ℕ) (ls : List Lock) → step ≡ Do t (Delete k) → (v.txns t).mark ≡ Going → v.under ≡ None → get v.walk k ≡ Some r → IsFree (locks_in v) t (asked (Delete k) v.walk)
      → SameLocks ls (kept (asked (Delete k) v.walk) ((v.txns t).locks)) → reply ≡ More → w ≡ with_change (did v t (Delete k) ls) t (Drops k) → Goes v step reply w
  drops_leaf : (t : ℕ) (k : Key) → step ≡ Continue t → (v.txns t).mark ≡ Going → v.under ≡ Some (record { owner = t; aim = Drops k }) → reply ≡ Deleted → w ≡ change_made v → Goes v step reply w
  -- a key that comes back wants a structure change first, after which it is taken back as above
  takes_later : (t : ℕ) (c : Change) (cs : List Change) → step ≡ Continue t → MayTakeBack ((v.txns t).mark) cs → v.under ≡ None → (v.txns t).net ≡ c ∷ cs → reply ≡ More → w ≡ with_change v t TakesBack → Goes v step reply w
  -- a key that goes leaves a leaf empty: the change is taken back, and then the leaf goes
  takes_first : (t : ℕ) (c : Change) (cs : List Change) → step ≡ Continue t → MayTakeBack ((v.txns t).mark) cs → v.under ≡ None → (v.txns t).net ≡ c ∷ cs → reply ≡ More → w ≡ with_change (undid_more v t c cs) t TookBack → Goes v step reply w
  takes_leaf : (t : ℕ) (c : Change) (cs : List Change) → step ≡ Continue t → MayTakeBack ((v.txns t).mark) cs → v.under ≡ Some (record { owner = t; aim = TookBack }) → (v.txns t).net ≡ c ∷ cs → reply ≡ More → w ≡ change_made v → Goes v step reply w
  takes_last : (t : ℕ) → step ≡ Continue t → (v.txns t).mark ≡ RollingBack → v.under ≡ Some (record { owner = t; aim = TookBack }) → (v.txns t).net ≡ [] → reply ≡ RolledBack → w ≡ change_made (dropped_by v t) → Goes v step reply w
  -- one that returns to its first n changes: it has no more, or begins to take its newest ones back
  stays_back : (t n : ℕ) → step ≡ RollTo t n → MayRollBack ((v.txns t).mark) → length ((v.txns t).net) ≤ n → reply ≡ Done → w ≡ marked v t Going → Goes v step reply w
  turns_back : (t n : ℕ) → step ≡ RollTo t n → MayRollBack ((v.txns t).mark) → n < length ((v.txns t).net) → reply ≡ More → w ≡ marked v t (Returning n) → Goes v step reply w
  gives_back : (t n : ℕ) (c : Change) (cs : List Change) → step ≡ Continue t → (v.txns t).mark ≡ Returning n → (v.txns t).net ≡ c ∷ cs → n < length cs → reply ≡ More → w ≡ undid_more v t c cs → Goes v step reply w
  -- n are left, and it is going
  is_back : (t n : ℕ) (c : Change) (cs : List Change) → step ≡ Continue t → (v.txns t).mark ≡ Returning n → (v.txns t).net ≡ c ∷ cs → n ≡ length cs → reply ≡ Done → w ≡ marked (undid_more v t c cs) t Going → Goes v step reply w
  leaf_is_back : (t n : ℕ) → step ≡ Continue t → (v.txns t).mark ≡ Returning n → v.under ≡ Some (record { owner = t; aim = TookBack }) → length ((v.txns t).net) ≡ n → reply ≡ Done → w ≡ change_made (marked v t Going) → Goes v step reply w
  -- its owner makes one page more of it
  logs_page : (t : ℕ) (u : Under) → step ≡ Continue t → v.under ≡ Some u → u.owner ≡ t → reply ≡ More → w ≡ v → Goes v step reply w
  -- it stands in the way of another
  tree_blocks : (t : ℕ) (a : Access) (u : Under) → step ≡ Do t a → v.under ≡ Some u → t ≢ u.owner → reply ≡ BlockedTree → w ≡ v → Goes v step reply w
  tree_halts : (t : ℕ) (u : Under) → step ≡ Continue t → v.under ≡ Some u → t ≢ u.owner → reply ≡ BlockedTree → w ≡ v → Goes v step reply w
  flushes : (p : ℕ) → step ≡ FlushPage p → reply ≡ Done → w ≡ v → Goes v step reply w
  forces : step ≡ Force → reply ≡ Done → w ≡ forced_by v → Goes v step reply w
  checkpoints : step ≡ Checkpoint → reply ≡ Done → w ≡ v → Goes v step reply w
  switches : step ≡ Switch → reply ≡ Done → w ≡ v → Goes v step reply w
  lacks : (fault : ℕ) → Wants step fault → reply ≡ Refused fault → w ≡ v → Goes v step reply w
  breaks : (fault : ℕ) (ls : ℕ → List Lock) → Breaks fault → reply ≡ Refused fault → w ≡ broken v ls → Goes v step reply w

-- a step that a check bars is refused and changes nothing; any other goes on
abbrev pub Answers : View → Step → Reply → View → Option ℕ → Type 0
Answers v step reply w None = Goes v step reply w
Answers v step reply w (Some fault) = (reply ≡ Refused fault) × (w ≡ v)

-- from v, the machine may give this reply to the step and go on to w
abbrev pub Moves : View → Step → Reply → View → Type 0
Moves v step reply w = Answers v step reply w (barred v step)

-- a whole run
abbrev pub Run : View → List (Step × Reply) → View → Type 0
Run v [] w = w ≡ v
Run v (e ∷ es) w = (mid : View) × Moves v e.0 e.1 mid × Run mid es w

-- at the beginning of a run: this map is committed, and this number is given next
abbrev pub start : IndexMap → ℕ → View
start base n = record { committed = base; walk = base; next = n; active = 0; failed = false; txns = λ t. idle; queue = []; under = None }

-- a run from this base leads to the view
pub record IsReached (base : IndexMap) (v : View) : Type 0 where
  pub trace : List (Step × Reply)
  pub first : ℕ
  pub run : Run (start base first) trace v
