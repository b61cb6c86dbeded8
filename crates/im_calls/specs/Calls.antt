-- What a call asks, and what it tells.
use Rattle.std.specs.Prelude.{◌≡◌, ℕ, List, [], ◌∷◌, ◌++◌, length, take, min}
use Rattle.std.specs.List.{flat_map}
use Rattle.std.specs.Int.{w64, to_le_bytes}
use Rattle.im_base_types.specs.Answers as answers
use Rattle.im_base_types.specs.Pages.{Entry}
use Rattle.im_calls.specs.declared.call.Call.{Call}

-- ---- what is asked

-- the bytes that are asked for
abbrev pub asked_bytes : ℕ → List ℕ → List ℕ
asked_bytes n bytes = take (min n 256) bytes

-- the access that a call asks, by its number
abbrev pub AsksAccess : Call → answers.Access → Type 0
AsksAccess c (answers.Fetch key) = (c.step ≡ 1) × (key ≡ asked_bytes c.key_len c.key)
AsksAccess c (answers.Seek key) = (c.step ≡ 2) × (key ≡ asked_bytes c.key_len c.key)
AsksAccess c (answers.Next key) = (c.step ≡ 3) × (key ≡ asked_bytes c.key_len c.key)
AsksAccess c (answers.Prev key) = (c.step ≡ 17) × (key ≡ asked_bytes c.key_len c.key)
AsksAccess c (answers.Scan lo hi limit) = (c.step ≡ 4) × (lo ≡ asked_bytes c.key_len c.key) × (hi ≡ asked_bytes c.hi_len c.hi) × (limit ≡ c.limit)
AsksAccess c (answers.Insert key rid) = (c.step ≡ 5) × (key ≡ asked_bytes c.key_len c.key) × (rid ≡ c.number)
AsksAccess c (answers.Delete key) = (c.step ≡ 6) × (key ≡ asked_bytes c.key_len c.key)

-- the step that a call asks, by its number
abbrev pub AsksStep : Call → answers.Step → Type 0
AsksStep c answers.Begin = c.step ≡ 0
AsksStep c (answers.Do t access) = (t ≡ c.txn) × AsksAccess c access
AsksStep c (answers.Commit t) = (c.step ≡ 7) × (t ≡ c.txn)
AsksStep c (answers.Rollback t) = (c.step ≡ 8) × (t ≡ c.txn)
AsksStep c (answers.Continue t) = (c.step ≡ 9) × (t ≡ c.txn)
AsksStep c (answers.RollTo t n) = (c.step ≡ 24) × (t ≡ c.txn) × (n ≡ c.number)
AsksStep c (answers.FlushPage page) = (c.step ≡ 10) × (page ≡ c.limit)
AsksStep c answers.Force = c.step ≡ 11
AsksStep c answers.Checkpoint = c.step ≡ 12
AsksStep c answers.Switch = c.step ≡ 16

-- ---- what is told

-- an entry as bytes: the length of its key, the key, and its row id in eight bytes, the lowest first
abbrev pub entry_bytes : Entry → List ℕ
entry_bytes e = (length e.0 ∷ []) ++ e.0 ++ to_le_bytes w64 e.1

-- entries as bytes, one after the other
abbrev pub entries_bytes : List Entry → List ℕ
entries_bytes list = flat_map entry_bytes list

-- numbers as bytes, each of them eight, the lowest first
abbrev pub numbers_bytes : List ℕ → List ℕ
numbers_bytes list = flat_map (to_le_bytes w64) list

-- a buffer begins with these bytes, so many of them: all that it has room for
pub record BeginsWith (buffer : List ℕ) (count : ℕ) (bytes : List ℕ) : Type 0 where
  pub fits : count ≡ min (length buffer) (length bytes)
  pub front : take count buffer ≡ take count bytes

-- a call tells this word with this number, and is no refusal
pub record TellsWord (c : Call) (w n : ℕ) : Type 0 where
  pub word : c.word ≡ w
  pub number : c.number ≡ n
  pub fault : c.fault ≡ 0

-- a call tells this refusal
pub record Refuses (c : Call) (cause : ℕ) : Type 0 where
  pub word : c.word ≡ 15
  pub number : c.number ≡ 0
  pub fault : c.fault ≡ cause

-- the bytes that a call tells
abbrev pub Shows : Call → List ℕ → Type 0
Shows c bytes = BeginsWith c.out c.out_len bytes

-- what a call tells for each reply
abbrev pub Tells : Call → answers.Reply → Type 0
Tells c (answers.Started t) = TellsWord c 0 t
Tells c (answers.Found rid) = TellsWord c 1 rid
Tells c answers.Absent = TellsWord c 2 0
Tells c (answers.Entry key rid) = TellsWord c 3 1 × Shows c (entry_bytes (key, rid))
Tells c answers.End = TellsWord c 4 0
Tells c (answers.Entries list) = TellsWord c 5 (length list) × Shows c (entries_bytes list)
Tells c answers.Inserted = TellsWord c 6 0
Tells c answers.Duplicate = TellsWord c 7 0
Tells c answers.Deleted = TellsWord c 8 0
Tells c answers.Committed = TellsWord c 9 0
Tells c answers.RolledBack = TellsWord c 10 0
Tells c answers.More = TellsWord c 11 0
Tells c (answers.Blocked holder) = TellsWord c 12 holder
Tells c answers.BlockedTree = TellsWord c 16 0
Tells c answers.Die = TellsWord c 13 0
Tells c answers.Done = TellsWord c 14 0
Tells c (answers.Refused fault) = Refuses c fault

-- the question of a call stays
pub record IsAnswered (old new : Call) : Type 0 where
  pub step : new.step ≡ old.step
  pub limit : new.limit ≡ old.limit
  pub txn : new.txn ≡ old.txn
  pub key : (new.key_len ≡ old.key_len) × (new.key ≡ old.key)
  pub hi : (new.hi_len ≡ old.hi_len) × (new.hi ≡ old.hi)
