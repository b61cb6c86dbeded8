-- A log that goes on in the other file.
use Rattle.std.specs.Prelude.{◌≡◌, ◌⊎◌, ℕ, ◌+◌, nat_lt, if◌then◌else◌, false, Bool, List, [], Result, OnOk}
use Rattle.im_base_types.specs.declared.fault.Fault.{Fault}
use Rattle.im_base_types.specs.declared.file_id.FileId.TheVariants.{Log, Pages, Log2}
use Rattle.im_base_types.specs.Records.{Logged}
use Rattle.im_base_disk.specs.declared.disk.Disk.{Ghosts}
use Rattle.im_base_disk.specs.Disk.{Files}
use Rattle.im_base_disk.specs.Runs.{IsSynced}
use Rattle.im_base_two_logs.specs.Renamed.{named}
use Rattle.im_base_two_logs.specs.Runs.{LeavesNamed}
use Rattle.im_log_choice.specs.Current.{HasCurrent, IsCurrent}
use Rattle.im_log_gate.specs.Header.{generation_of, least_number, IsUnmade}
use Rattle.im_log_gate.specs.Gate.{place_of}
use Rattle.im_log.specs.declared.log_file.LogFile.{LogFile}
use Rattle.im_log.specs.LogFile.{next_lsn, IsLog}
use Rattle.im_log.specs.Kept.{HasLog}

-- The LSN of the gate once what waits is durable.
abbrev pub next_gate : LogFile → ℕ
next_gate log = if nat_lt 0 log.used then next_lsn log else log.base + place_of log.gate

-- A file is as it was, or not made.
abbrev pub IsKeptOrUnmade : List ℕ → List ℕ → Type 0
IsKeptOrUnmade was file = (file ≡ was) ⊎ IsUnmade file

-- Files have a current log: the one from before with its list, and beside it no other than was; or one that starts at this LSN and has no record. Then the one from before is the other.
pub record HasEither (base : ℕ) (all : List Logged) (start : ℕ) (was files : Files) : Type 0 where
  pub swapped : Bool
  pub current : IsCurrent swapped files
  pub has : HasCurrent files
  pub log : (HasLog base all (named swapped files Log) × IsKeptOrUnmade (was Log2) (named swapped files Log2)) ⊎ (HasLog start [] (named swapped files Log) × (named swapped files Log2 ≡ was Log))
  pub pages : files Pages ≡ was Pages

module _ {D : Type 0} (d : Ghosts D) (base : ℕ) (all : List Logged) (next : ℕ) (old : LogFile) (old_disk : D) where
  -- The log has no record, and its first byte the LSN of the gate from before. The log from before is the other one.
  pub record WentOn (new : LogFile) (disk : D) : Type 0 where
    pub log : IsLog d (base + place_of old.gate) [] [] new disk
    pub generation : generation_of (d.seen disk Log) ≡ generation_of (d.seen old_disk Log) + 1
    pub number : least_number (d.seen disk Log) ≡ next
    pub before : d.seen disk Log2 ≡ d.seen old_disk Log
    pub pages : d.seen disk Pages ≡ d.seen old_disk Pages
    pub durable : IsSynced d disk

  -- A log whose records are all durable goes on, with all of each file on the disk; a stop within leaves files that have the one log or the other.
  pub record LogSwitchKept (new : LogFile) (disk : D) (result : Result Unit Fault) : Type 0 where
    pub ok : OnOk result (WentOn new disk)
    pub stops : IsCurrent false (d.seen old_disk) → HasCurrent (d.seen old_disk) → LeavesNamed d old_disk disk (HasEither base all (base + place_of old.gate) (d.seen old_disk))
