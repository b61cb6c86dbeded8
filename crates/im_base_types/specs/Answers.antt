-- Steps, replies, and the answers of one user alone on a map.
use Rattle.std.specs.Prelude.{ℕ, ◌==◌, nat_lt, Bool, true, false, not, ◌&&◌, cond, List, [], ◌∷◌, take, Option, Some, None, is_some}
use Rattle.std.specs.List.{filter}
use Rattle.std.specs.FinMap.{entries, get}
use Rattle.im_base_types.specs.Keys.{Key}
use Rattle.im_base_types.specs.Maps.{IndexMap, From, Above, is_below, first, last_below}
use Rattle.im_base_types.specs.Changes.{Effect, Put, Drop, apply}

-- what a transaction asks of the index
pub data Access : Type 0 where
  Fetch : (key : Key) → Access
  Seek : (key : Key) → Access
  Next : (key : Key) → Access
  Prev : (key : Key) → Access
  Scan : (lo hi : Key) (limit : ℕ) → Access
  Insert : (key : Key) (rid : ℕ) → Access
  Delete : (key : Key) → Access

-- a call of the engine
pub data Step : Type 0 where
  Begin : Step
  Do : (t : ℕ) (access : Access) → Step
  Commit : (t : ℕ) → Step
  Rollback : (t : ℕ) → Step
  Continue : (t : ℕ) → Step
  -- its newest changes are taken back until n are left, and it goes on with its locks
  RollTo : (t n : ℕ) → Step
  FlushPage : (page : ℕ) → Step
  Force : Step
  Checkpoint : Step
  Switch : Step

-- what it answers
pub data Reply : Type 0 where
  Started : (t : ℕ) → Reply
  Found : (rid : ℕ) → Reply
  Absent : Reply
  Entry : (key : Key) (rid : ℕ) → Reply
  End : Reply
  Entries : (list : List (Key × ℕ)) → Reply
  Inserted : Reply
  Duplicate : Reply
  Deleted : Reply
  Committed : Reply
  RolledBack : Reply
  More : Reply
  -- another transaction's lock stands in the way, or a structure change
  Blocked : (holder : ℕ) → Reply
  BlockedTree : Reply
  Die : Reply
  Done : Reply
  -- refused, with the refusal's number
  Refused : (fault : ℕ) → Reply

-- how a transaction stands between two steps
pub data Mark : Type 0 where
  -- it is not active
  Idle : Mark
  Going : Mark
  -- it was answered Die
  MustRollBack : Mark
  RollingBack : Mark
  -- it takes its newest changes back until n are left, and then is going
  Returning : (n : ℕ) → Mark
  -- its Commit is logged and waits for a force
  Committing : Mark

-- ---- one user alone

-- the limit of a scan is brought into 1 to 256
abbrev pub limit_of : ℕ → ℕ
limit_of n = cond (n == 0) 1 (cond (nat_lt 256 n) 256 n)

abbrev pub found : Option ℕ → Reply
found None = Absent
found (Some r) = Found r

abbrev pub entry : Option (Key × ℕ) → Reply
entry None = End
entry (Some e) = Entry e.0 e.1

-- the first n entries from lo to hi, in rising order
abbrev pub scan : Key → Key → ℕ → IndexMap → List (Key × ℕ)
scan lo hi n m = take n (filter (λ e. not (is_below e.0 lo) && not (is_below hi e.0)) (entries m))

-- the reply to an access on a map
abbrev pub answer : Access → IndexMap → Reply
answer (Fetch k) m = found (get m k)
answer (Seek k) m = entry (first (From k) m)
answer (Next k) m = entry (first (Above k) m)
answer (Prev k) m = entry (last_below k m)
answer (Scan lo hi n) m = Entries (scan lo hi (limit_of n) m)
answer (Insert k r) m = cond (is_some (get m k)) Duplicate Inserted
answer (Delete k) m = cond (is_some (get m k)) Deleted Absent

abbrev pub dropped : Key → Option ℕ → Effect
dropped k None = []
dropped k (Some r) = Drop k r ∷ []

-- what an access changes of a map: nothing, or one key
abbrev pub changes : Access → IndexMap → Effect
changes (Fetch k) m = []
changes (Seek k) m = []
changes (Next k) m = []
changes (Prev k) m = []
changes (Scan lo hi n) m = []
changes (Insert k r) m = cond (is_some (get m k)) [] (Put k r ∷ [])
changes (Delete k) m = dropped k (get m k)

-- the map that an access leaves
abbrev pub map_after : Access → IndexMap → IndexMap
map_after a m = apply m (changes a m)

-- the replies to accesses in turn, each on the map that the ones before left
abbrev pub replay : IndexMap → List Access → List Reply
replay m [] = []
replay m (a ∷ more) = answer a m ∷ replay (map_after a m) more

-- the map that they leave
abbrev pub map_after_all : IndexMap → List Access → IndexMap
map_after_all m [] = m
map_after_all m (a ∷ more) = map_after_all (map_after a m) more

-- whether a reply finishes an access: not Blocked, Die or Refused
abbrev pub is_answer : Reply → Bool
is_answer (Found r) = true
is_answer Absent = true
is_answer (Entry k r) = true
is_answer End = true
is_answer (Entries es) = true
is_answer Inserted = true
is_answer Duplicate = true
is_answer Deleted = true
is_answer _ = false
