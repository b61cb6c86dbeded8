-- What the calls of a disk do to its files, and what a stop may do between two syncs.
use Rattle.std.specs.Prelude.{◌≡◌, ◌≢◌, ◌⊎◌, ℕ, ◌+◌, ◌≤◌, ◌<◌, max, Bool, not, is_ok, List, [], ◌++◌, length, take, drop, Result, IfErr, Option, Some}
use Rattle.im_base_types.specs.declared.fault.Fault.{Fault}
use Rattle.im_base_types.specs.declared.fault.Fault.TheVariants.{Device}
use Rattle.im_base_types.specs.declared.file_id.FileId.{FileId}
use Rattle.im_base_types.specs.declared.file_id.FileId.TheVariants.{Log, Pages, Log2}

-- the bytes of each file
abbrev pub Files : Type 0
Files = FileId → List ℕ

-- these bytes of each file
abbrev pub three : List ℕ → List ℕ → List ℕ → Files
three log pages log2 Log = log
three log pages log2 Pages = pages
three log pages log2 Log2 = log2

-- these of the one log and of the pages; the other log is empty
abbrev pub both : List ℕ → List ℕ → Files
both log pages = three log pages []

-- new is old with these bytes at this place
abbrev pub Holds : ℕ → List ℕ → List ℕ → List ℕ → Type 0
Holds at bytes old new = new ≡ take at old ++ bytes ++ drop (at + length bytes) old

-- after a write of n bytes that a stop cuts short: any bytes in the range and past the old end, the same elsewhere
pub record Torn (at n : ℕ) (old new : List ℕ) : Type 0 where
  pub before : take at new ≡ take at old
  pub after : drop (at + n) new ≡ drop (at + n) old
  pub no_shorter : length old ≤ length new
  pub no_longer : length new ≤ max (length old) (at + n)

-- What a reader finds at a place of a file: what stands there with its sum, or none.
abbrev pub Shows : Type 0
Shows = ℕ → List ℕ → Option (List ℕ)

-- the file once the write of these bytes is whole
abbrev pub whole : ℕ → List ℕ → List ℕ → List ℕ
whole at bytes old = take at old ++ bytes ++ drop (at + length bytes) old

-- The same where a stop forges no sum: what the file then shows in the range was there before, or is what the whole write would have there.
pub record Unforged (shows : Shows) (at : ℕ) (bytes old new : List ℕ) : Type 0 where
  pub torn : Torn at (length bytes) old new
  pub shown : (p : ℕ) (r : List ℕ) → at ≤ p → p < at + length bytes → shows p new ≡ Some r → (shows p old ≡ Some r) ⊎ (shows p (whole at bytes old) ≡ Some r)

-- one file takes a step, and each other is as before
pub record InFile (file : FileId) (step : List ℕ → List ℕ → Type 0) (old new : Files) : Type 0 where
  pub changed : step (old file) (new file)
  pub others : (other : FileId) → other ≢ file → new other ≡ old other

-- one of these outcomes after a step
abbrev pub Stepped : (Files → Files → Type 0) → (Files → Type 0) → Files → Type 0
Stepped step outcomes c = (d : Files) × outcomes d × step d c

-- each new outcome of a stop is an old outcome after a step
abbrev pub Follows : (Files → Files → Type 0) → (Files → Type 0) → (Files → Type 0) → Type 0
Follows step old new = (c : Files) → new c → Stepped step old c

-- a stop leaves these bytes of the file and nothing else
abbrev pub Only : FileId → Files → (Files → Type 0) → Type 0
Only file bytes outcomes = (c : Files) → outcomes c → c file ≡ bytes file

-- Time goes on: a stop since t might have left what it might have left before, or what it may leave now.
pub record Elapses (before now : ℕ) (past since : ℕ → Files → Type 0) (may_leave : Files → Type 0) : Type 0 where
  pub later : before ≤ now
  pub nothing_else : (t : ℕ) (c : Files) → t ≤ before → since t c → past t c ⊎ may_leave c
  pub keeps : (t : ℕ) (c : Files) → t ≤ before → past t c → since t c

-- So many writes and so many syncs were called for: each counts whether it succeeds or fails.
pub record Calls {D : Type 0} (writes_of syncs_of : D → ℕ) (w s : ℕ) (old new : D) : Type 0 where
  pub writes : writes_of new ≡ writes_of old + w
  pub syncs : syncs_of new ≡ syncs_of old + s

-- A call that only reads: a stop may leave the same as before, and might have left the same; no write and no sync is called for.
pub record OnlyReads {D : Type 0} (seen_in : D → Files) (may_leave : D → Files → Type 0) (moment : D → ℕ) (left_since : D → ℕ → Files → Type 0) (writes_of syncs_of : D → ℕ) (old new : D) : Type 0 where
  pub seen : seen_in new ≡ seen_in old
  pub outcomes : (c : Files) → may_leave new c → may_leave old c
  pub no_fewer : (c : Files) → may_leave old c → may_leave new c
  pub later : moment old ≤ moment new
  pub since : (t : ℕ) (c : Files) → t ≤ moment old → left_since new t c → left_since old t c
  pub keeps : (t : ℕ) (c : Files) → t ≤ moment old → left_since old t c → left_since new t c
  pub writes : writes_of new ≡ writes_of old
  pub syncs : syncs_of new ≡ syncs_of old

-- the one refusal is `Device`, and the disk notes it
pub record Answers {T : Type 0} (failed : Bool) (result : Result T Fault) : Type 0 where
  pub device : IfErr result (λ e. e ≡ Device)
  pub noted : failed ≡ not (is_ok result)
