-- The log file that is not in use.
use Rattle.std.specs.Prelude.{◌≡◌, ◌⊎◌, ◌<◌, ◌++◌, ℕ, List, take}
use Rattle.im_base_types.specs.declared.file_id.FileId.TheVariants.{Log, Log2}
use Rattle.im_base_disk.specs.Disk.{Files}
use Rattle.im_log_gate.specs.Header.{base_of, generation_of}
use Rattle.im_log_header.specs.Header.{IsUnmade, IsMade}
use Rattle.im_log.specs.Kept.{HasLog}
use Rattle.im_theory_switch.specs.Left.{AreReadable, IsPast}
use Rattle.im_theory_log.specs.Histories.{Base, History}

-- What a log that was left says of what the log is over: its bytes, with what was cut off after its header since, spell records that can be read, and each of their changes is in those pages.
pub record SaysLeft (b : Base) (file : List ℕ) : Type 0 where
  pub before : History
  pub cut : List ℕ
  pub header : take 47 (file ++ cut) ≡ take 47 file
  pub spells : HasLog (base_of file) before (file ++ cut)
  pub readable : AreReadable before
  pub past : IsPast b before

-- None was left, or one that says so.
abbrev pub LeftSays : Base → List ℕ → Type 0
LeftSays b file = IsUnmade file ⊎ SaysLeft b file

-- The other log is not made, or one of an earlier generation than the log's, which says so.
pub record IsOlder (b : Base) (files : Files) : Type 0 where
  pub earlier : generation_of (files Log2) < generation_of (files Log)
  pub known : IsUnmade (files Log2) ⊎ IsMade (files Log2)
  pub left : LeftSays b (files Log2)

-- The log is the newest one: the other is older, or neither is made.
abbrev pub IsNewest : Base → Files → Type 0
IsNewest b files = IsOlder b files ⊎ (IsUnmade (files Log) × IsUnmade (files Log2))
