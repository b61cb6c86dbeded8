-- What each step may be answered, whatever is known of a store's disk.
use Rattle.std.specs.Prelude.{◌||◌, ◌≡◌, ℕ, ◌+◌, ◌≤◌, ◌==◌, Bool, true, false, length, if◌then◌else◌}
use Rattle.im_base_types.specs.Answers.{Fetch, Seek, Next, Prev, Scan, Insert, Delete, Step, Begin, Do, Commit, Rollback, Continue, RollTo, FlushPage, Force, Checkpoint, Switch, Reply, Started, Found, Absent, Entry, End, Entries, Inserted, Duplicate, Deleted, Committed, RolledBack, More, Blocked, BlockedTree, Die, Done, Refused}
use Rattle.im_base_types.specs.Refusals.{memory}
use Rattle.im_base_steps.specs.Calls.{is_continue, is_force, most_entries}

-- ---- steps, by what they ask

abbrev pub is_begin : Step → Bool
is_begin Begin = true
is_begin _ = false

abbrev pub is_access : Step → Bool
is_access (Do t a) = true
is_access _ = false

abbrev pub is_fetch : Step → Bool
is_fetch (Do t (Fetch key)) = true
is_fetch _ = false

abbrev pub is_search : Step → Bool
is_search (Do t (Seek key)) = true
is_search (Do t (Next key)) = true
is_search (Do t (Prev key)) = true
is_search _ = false

abbrev pub is_scan : Step → Bool
is_scan (Do t (Scan lo hi limit)) = true
is_scan _ = false

abbrev pub is_insert : Step → Bool
is_insert (Do t (Insert key rid)) = true
is_insert _ = false

abbrev pub is_delete : Step → Bool
is_delete (Do t (Delete key)) = true
is_delete _ = false

-- a key that is not there
abbrev pub may_miss : Step → Bool
may_miss (Do t (Fetch key)) = true
may_miss (Do t (Delete key)) = true
may_miss _ = false

abbrev pub is_commit : Step → Bool
is_commit (Commit t) = true
is_commit _ = false

-- a Rollback or a Continue
abbrev pub takes_back : Step → Bool
takes_back (Rollback t) = true
takes_back (Continue t) = true
takes_back _ = false

-- a Rollback, a Continue or a RollTo
abbrev pub goes_back : Step → Bool
goes_back (Rollback t) = true
goes_back (Continue t) = true
goes_back (RollTo t left) = true
goes_back _ = false

-- a step after which a return may be done
abbrev pub may_return : Step → Bool
may_return (Continue t) = true
may_return (RollTo t left) = true
may_return _ = false

-- a step that is of no transaction
abbrev pub is_service : Step → Bool
is_service (FlushPage page) = true
is_service Force = true
is_service Checkpoint = true
is_service Switch = true
is_service _ = false

-- ---- replies

-- refused for a full trace
abbrev pub is_full : Reply → Bool
is_full (Refused fault) = fault == 14
is_full _ = false

-- refused for want of memory
abbrev pub lacks_memory : Reply → Bool
lacks_memory (Refused fault) = fault == memory
lacks_memory _ = false

-- What a step may be answered: a Begin a number; a Fetch a row id, a Seek, Next or Prev an entry, a Scan entries up to its limit; and so on. An Insert or a Delete that
-- goes on is answered More, and ends with a Continue; so is a RollTo, and ends with one that is answered Done. A refusal is of any step.
abbrev pub Suits : Step → Reply → Type 0
Suits step (Started t) = is_begin step ≡ true
Suits step (Found rid) = is_fetch step ≡ true
Suits step Absent = may_miss step ≡ true
Suits step (Entry key rid) = is_search step ≡ true
Suits step End = is_search step ≡ true
Suits step (Entries list) = (is_scan step ≡ true) × (length list ≤ most_entries step)
Suits step Inserted = (is_insert step || is_continue step) ≡ true
Suits step Duplicate = is_insert step ≡ true
Suits step Deleted = (is_delete step || is_continue step) ≡ true
Suits step Committed = is_commit step ≡ true
Suits step RolledBack = takes_back step ≡ true
Suits step More = (goes_back step || (is_commit step || (is_insert step || is_delete step))) ≡ true
Suits step (Blocked holder) = is_access step ≡ true
Suits step BlockedTree = (is_access step || is_continue step) ≡ true
Suits step Die = is_access step ≡ true
Suits step Done = (is_service step || may_return step) ≡ true
Suits step (Refused fault) = Unit {0}

-- What it may be answered by a store that makes each structure change within one step: no Insert or Delete goes on, and no Continue finds the tree blocked.
abbrev pub SuitsAtOnce : Step → Reply → Type 0
SuitsAtOnce step Inserted = is_insert step ≡ true
SuitsAtOnce step Deleted = is_delete step ≡ true
SuitsAtOnce step More = (goes_back step || is_commit step) ≡ true
SuitsAtOnce step BlockedTree = is_access step ≡ true
SuitsAtOnce step reply = Suits step reply

-- A reply that a store gives to a step: one that suits it, and no refusal for a full trace, which is a front's.
pub record IsReply (step : Step) (reply : Reply) : Type 0 where
  pub suits : Suits step reply
  pub room : is_full reply ≡ false

-- ---- transactions that a reply begins and ends

abbrev pub started_in : Reply → ℕ
started_in (Started t) = 1
started_in _ = 0

abbrev pub rolled_back_in : Reply → ℕ
rolled_back_in RolledBack = 1
rolled_back_in _ = 0

-- Where so many wait for a force: how many a reply commits, since a force commits all of them, and how many wait then.
abbrev pub commits_in : ℕ → Step → Reply → ℕ
commits_in waiting step Committed = 1
commits_in waiting step Done = if is_force step then waiting else 0
commits_in waiting step _ = 0

abbrev pub waits_after : ℕ → Step → Reply → ℕ
waits_after waiting step More = if is_commit step then waiting + 1 else waiting
waits_after waiting step Done = if is_force step then 0 else waiting
waits_after waiting step _ = waiting

-- With so many that wait for a force and so many active before a reply, and so many of both after it: what was started or was active has ended, or is active, and who waits is
-- who waited and was not committed, or whose Commit is to wait.
abbrev pub IsCounted : Step → Reply → (waiting old waits new : ℕ) → Type 0
IsCounted step reply waiting old waits new = (started_in reply + old ≡ (commits_in waiting step reply + rolled_back_in reply) + new) × (waits ≡ waits_after waiting step reply)
