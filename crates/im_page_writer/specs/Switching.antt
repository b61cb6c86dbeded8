-- What a switch keeps, by which the log goes on in the other file.
use Rattle.std.specs.Prelude.{◌≡◌, ◌⊎◌, ◌<◌, ◌≤◌, ◌+◌, ◌^◌, ℕ, Bool, true, [], None, Result, OnOk}
use Rattle.im_base_types.specs.declared.fault.Fault.{Fault}
use Rattle.im_base_types.specs.declared.fault.Fault.TheVariants.{Capacity, Device, Failed, LogFull}
use Rattle.im_base_types.specs.declared.file_id.FileId.TheVariants.{Log}
use Rattle.im_theory_log.specs.Histories.{Base, History, end_of}
use Rattle.im_theory_log.specs.Copies.{GrowsByImages}
use Rattle.im_theory_log.specs.Writer.{Writer}
use Rattle.im_theory_switch.specs.Switch.{base_after, switched}
use Rattle.im_base_disk.specs.declared.disk.Disk.{Ghosts}
use Rattle.im_base_disk.specs.Disk.{Files}
use Rattle.im_base_two_logs.specs.Renamed.{named}
use Rattle.im_base_two_logs.specs.Runs.{LeavesNamed}
use Rattle.im_log.specs.declared.log_file.LogFile.{LogFile}
use Rattle.im_log.specs.Switching.{next_gate}
use Rattle.im_log.specs.LogFile.{end_with}
use Rattle.im_log_gate.specs.Gate.{generation_at}
use Rattle.im_log_gate.specs.Header.{generation_of, least_number}
use Rattle.im_page_file.specs.Stands.{IsCovered}
use Rattle.im_page_table.specs.Growth.{Keeps}
use Rattle.im_page_writer.specs.declared.page_writer.PageWriter.{PageWriter}
use Rattle.im_page_writer.specs.PageWriter.{StandsAs}

-- By some names of the two logs, a stop left what redo can start from: the log as it was, or with Images more; or the next one, with no record, over the pages that this one made.
pub record LeftSwitching (b : Base) (base : ℕ) (s : Writer) (files : Files) : Type 0 where
  pub swapped : Bool
  pub high : History
  pub grows : GrowsByImages b s.log high
  pub place : ℕ
  pub end : end_of b high < place
  pub covered : IsCovered b base s.durable high (named swapped files) ⊎ IsCovered (base_after b high place) place [] [] (named swapped files)

module _ {D : Type 0} (d : Ghosts D) (b : Base) (base : ℕ) where
  -- The writer stands over the next log, with no record, which is over the pages as they were: the log had Images more by then, all of it was durable, and each page was in its file.
  pub record Switched (s : Writer) (next : ℕ) (w : PageWriter) (disk : D) : Type 0 where
    pub now : Writer
    pub keeps : Keeps b s now
    pub clean : (p : ℕ) → (now.pages p).entry ≡ None
    pub durable : now.durable ≡ now.log
    pub place : ℕ
    pub end : end_of b now.log < place
    pub stands : StandsAs d (base_after b now.log place) place (switched place now) w disk
    pub number : least_number (d.seen disk Log) ≡ next
    -- so it is one of the second format
    pub second : 2 ≤ generation_of (d.seen disk Log)

  -- what it keeps
  pub record SwitchKept (s : Writer) (next : ℕ) (old : D) (w : PageWriter) (disk : D) (result : Result Unit Fault) : Type 0 where
    pub ok : OnOk result (Switched s next w disk)
    pub stops : LeavesNamed d old disk (LeftSwitching b base s)

-- Why the log may not go on, before any call: the first gate of the next log would have an LSN above 2^62, even with no Image; or, where it would not, there is no next generation.
abbrev pub MayNotSwitch : LogFile → Fault → Type 0
MayNotSwitch log LogFull = 2 ^ 62 < next_gate log + 47
MayNotSwitch log Capacity = (next_gate log + 47 ≤ 2 ^ 62) × (2 ^ 62 ≤ generation_at log.gate + 1)
MayNotSwitch log e = ⊥

module _ {D : Type 0} (d : Ghosts D) where
  -- Why a switch is refused: an earlier call had failed; the log ends so near LSN 2^62 that the first gate of the next one, or an Image of a page, would lie above it; there is no next generation; or the disk failed.
  abbrev pub RefusesSwitch : Bool → LogFile → D → Fault → Type 0
  RefusesSwitch broken log new Failed = broken ≡ true
  RefusesSwitch broken log new LogFull = (2 ^ 62 < next_gate log + 47) ⊎ (2 ^ 62 < end_with log 4129)
  RefusesSwitch broken log new Capacity = 2 ^ 62 ≤ generation_at log.gate + 1
  RefusesSwitch broken log new Device = d.failed new ≡ true
  RefusesSwitch broken log new e = ⊥
