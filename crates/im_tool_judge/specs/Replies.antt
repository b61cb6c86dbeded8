-- The parts of a reply, which together are all that it says.
use Rattle.std.specs.Prelude.{ℕ, []}
use Rattle.im_base_types.specs.Keys.{Key}
use Rattle.im_base_types.specs.Answers.{Reply, Started, Found, Absent, Entry, End, Entries, Inserted, Duplicate, Deleted, Committed, RolledBack, More, Blocked, BlockedTree, Die, Done, Refused}

-- which kind it is
abbrev pub kind_of : Reply → ℕ
kind_of (Started t) = 0
kind_of (Found rid) = 1
kind_of Absent = 2
kind_of (Entry key rid) = 3
kind_of End = 4
kind_of (Entries list) = 5
kind_of Inserted = 6
kind_of Duplicate = 7
kind_of Deleted = 8
kind_of Committed = 9
kind_of RolledBack = 10
kind_of More = 11
kind_of (Blocked holder) = 12
kind_of BlockedTree = 13
kind_of Die = 14
kind_of Done = 15
kind_of (Refused fault) = 16

-- its number
abbrev pub number_in : Reply → ℕ
number_in (Started t) = t
number_in (Found rid) = rid
number_in (Entry key rid) = rid
number_in (Blocked holder) = holder
number_in (Refused fault) = fault
number_in _ = 0

-- the key of a single entry
abbrev pub key_in : Reply → Key
key_in (Entry key rid) = key
key_in _ = []
