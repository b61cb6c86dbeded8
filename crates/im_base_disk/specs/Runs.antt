-- What a run of calls, of whatever layer, leaves of the files.
use Rattle.std.specs.Prelude.{◌≡◌, ◌≢◌, ◌⊎◌, ℕ, ◌+◌, ◌*◌, ◌≤◌, List}
use Rattle.im_base_types.specs.declared.file_id.FileId.{FileId}
use Rattle.im_base_disk.specs.declared.disk.Disk.{Ghosts}
use Rattle.im_base_disk.specs.Disk.{Files, Only, InFile, Stepped, OnlyReads, Calls}

-- All of each file is on the disk.
abbrev pub IsSynced : {D : Type 0} → Ghosts D → D → Type 0
IsSynced d disk = (file : FileId) → Only file (d.seen disk) (d.may_leave disk)

-- A stop at any moment since old leaves files that have P.
pub record LeavesOnly {D : Type 0} (d : Ghosts D) (old new : D) (P : Files → Type 0) : Type 0 where
  pub later : d.moment old ≤ d.moment new
  pub each : d.tells → (c : Files) → d.left_since new (d.moment old) c → P c
  -- for a run that began earlier
  pub before : d.tells → (t : ℕ) (c : Files) → t ≤ d.moment old → d.left_since new t c → d.left_since old t c ⊎ P c

-- The same of one file, whose bytes have P. The others are as a stop before the run might have left them.
abbrev pub LeavesIn : {D : Type 0} → Ghosts D → FileId → D → D → (List ℕ → Type 0) → Type 0
LeavesIn d file old new P = LeavesOnly d old new (Stepped (InFile file (λ _ bytes. P bytes)) (d.may_leave old))

-- A run changes no other file.
pub record ChangesOnly {D : Type 0} (d : Ghosts D) (file : FileId) (old new : D) : Type 0 where
  pub seen : (other : FileId) → other ≢ file → d.seen new other ≡ d.seen old other
  pub outcomes : (c : Files) → d.may_leave new c → (e : Files) × d.may_leave old e × ((other : FileId) → other ≢ file → c other ≡ e other)

-- A run leaves this file's part of what is known alone, whatever it does to the others.
pub record Spares {D : Type 0} (d : Ghosts D) (file : FileId) (old new : D) : Type 0 where
  pub seen : d.seen new file ≡ d.seen old file
  pub outcomes : (c : Files) → d.may_leave new c → (e : Files) × d.may_leave old e × (c file ≡ e file)

-- A run that only reads.
abbrev pub Reads : {D : Type 0} → Ghosts D → D → D → Type 0
Reads d old new = OnlyReads d.seen d.may_leave d.moment d.left_since d.writes d.syncs old new

-- A run makes exactly so many writes and so many syncs.
abbrev pub Costs : {D : Type 0} → Ghosts D → ℕ → ℕ → D → D → Type 0
Costs d w s old new = Calls d.writes d.syncs w s old new

-- A run makes at most so many writes and so many syncs.
pub record CostsAtMost {D : Type 0} (d : Ghosts D) (w s : ℕ) (old new : D) : Type 0 where
  pub writes : d.writes new ≤ d.writes old + w
  pub syncs : d.syncs new ≤ d.syncs old + s

-- A run makes at most so many forces of a log, of two writes and two syncs each, and no other write or sync.
pub record Forces {D : Type 0} (d : Ghosts D) (n : ℕ) (old new : D) : Type 0 where
  pub times : ℕ
  pub few : times ≤ n
  pub costs : Costs d (2 * times) (2 * times) old new
