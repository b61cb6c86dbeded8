-- Locks and requests, as tests.
use Rattle.std.specs.Prelude.{◌≡◌, ℕ, Bool, true, false, ◌&&◌, ◌||◌, nat_lt, ◌≤◌, cond, map, List, [], ◌∷◌, Option, None, Some, Vec}
use Rattle.std.specs.Str.{bytes_eq}
use Rattle.im_theory_machine.specs.Locks.{Name, At, PastAll, Lock, Request}
use Rattle.im_theory_machine.specs.declared.lock_kind.Mode.{Mode}
use Rattle.im_theory_machine.specs.declared.lock_kind.Mode.TheVariants.{Shared, Exclusive}
use Rattle.im_theory_machine.specs.declared.lock_kind.Duration.{Duration}
use Rattle.im_theory_machine.specs.declared.lock_kind.Duration.TheVariants.{Instant, ToFinish, ToCommit}
use Rattle.im_engine_locks.specs.Keys.{spelled}
use Rattle.im_engine_locks.specs.declared.stored_lock.StoredName.{StoredName}
use Rattle.im_engine_locks.specs.declared.stored_lock.StoredName.TheVariants.{Key as StoredKey, End as StoredEnd}
use Rattle.im_engine_locks.specs.declared.stored_lock.StoredLock.{StoredLock}

-- two names are equal
abbrev pub same_name : Name → Name → Bool
same_name (At a) (At b) = bytes_eq a b
same_name (At a) PastAll = false
same_name PastAll (At b) = false
same_name PastAll PastAll = true

-- two modes are equal
abbrev pub same_mode : Mode → Mode → Bool
same_mode Shared Shared = true
same_mode Shared Exclusive = false
same_mode Exclusive Shared = false
same_mode Exclusive Exclusive = true

-- the lock is on this name, in this mode
abbrev pub same_lock : Lock → Name → Mode → Bool
same_lock l n m = same_name l.name n && same_mode l.mode m

-- one of these locks is on this name, in this mode
abbrev pub is_held : List Lock → Name → Mode → Bool
is_held [] n m = false
is_held (l ∷ ls) n m = same_lock l n m || is_held ls n m

-- each lock once
abbrev pub IsOnce : List Lock → Type 0
IsOnce [] = Unit {0}
IsOnce (l ∷ ls) = (is_held ls l.name l.mode ≡ false) × IsOnce ls

-- a name as it is stored
abbrev pub stored : StoredName → Name
stored (StoredKey key) = At (spelled key)
stored StoredEnd = PastAll

-- a lock as it is stored
abbrev pub seen : StoredLock → Lock
seen l = record { name = stored l.name; mode = l.mode }

-- the list of locks as it is seen
abbrev pub seen_all : {Y : Type 0} → Vec StoredLock Y → List Lock
seen_all locks = map seen locks.items

-- the mode conflicts with every other
abbrev pub is_exclusive : Mode → Bool
is_exclusive Shared = false
is_exclusive Exclusive = true

-- the least number that passes the test, or none where none does
abbrev pub IsLeast : (ℕ → Bool) → Option ℕ → Type 0
IsLeast passes None = (s : ℕ) → passes s ≡ false
IsLeast passes (Some x) = (passes x ≡ true) × ((s : ℕ) → passes s ≡ true → x ≤ s)

-- the smaller of two numbers that may be missing
abbrev pub smaller_of : Option ℕ → Option ℕ → Option ℕ
smaller_of None b = b
smaller_of (Some x) None = Some x
smaller_of (Some x) (Some y) = Some (cond (nat_lt y x) y x)

-- a lock of this duration is held after its grant
abbrev pub is_kept : Duration → Bool
is_kept Instant = false
is_kept ToFinish = true
is_kept ToCommit = true

-- and it lasts until it is released
abbrev pub is_to_commit : Duration → Bool
is_to_commit Instant = false
is_to_commit ToFinish = false
is_to_commit ToCommit = true

-- one of these requests, of a duration that passes the test, is for this name in this mode
abbrev pub asks_for : (Duration → Bool) → List Request → Name → Mode → Bool
asks_for passes [] n m = false
asks_for passes (q ∷ qs) n m = (passes q.duration && same_lock (record { name = q.name; mode = q.mode }) n m) || asks_for passes qs n m

abbrev pub keeps : List Request → Name → Mode → Bool
keeps = asks_for is_kept

abbrev pub lasts : List Request → Name → Mode → Bool
lasts = asks_for is_to_commit
