-- How a call may end that adds Images to a log.
use Rattle.std.specs.Prelude.{◌≡◌, ◌<◌, ◌^◌, false, true, Option, None, Some}
use Rattle.im_base_types.specs.declared.fault.Fault.{Fault}
use Rattle.im_base_types.specs.declared.fault.Fault.TheVariants.{Device, LogFull}
use Rattle.im_base_disk.specs.declared.disk.Disk.{Ghosts}
use Rattle.im_log.specs.declared.log_file.LogFile.{LogFile}
use Rattle.im_log.specs.LogFile.{end_with, HasNoRoom, IsOpen}
use Rattle.im_page_file.specs.LogEnds.{EndsNoSooner}

module _ {D : Type 0} (d : Ghosts D) where
  -- How a call ends that adds Images to a log that works, and may bring them to the disk, by its refusal, if it was refused.
  abbrev pub ImagingEnds : LogFile → LogFile → D → Option Fault → Type 0
  ImagingEnds old new disk None = (new.failed ≡ false) × (d.failed disk ≡ false) × EndsNoSooner old new
  ImagingEnds old new disk (Some LogFull) = (d.failed disk ≡ false) × HasNoRoom new × (2 ^ 62 < end_with new 4129)
  ImagingEnds old new disk (Some Device) = d.failed disk ≡ true
  ImagingEnds old new disk (Some e) = ⊥

  -- The outcome of such a call: unless the disk has failed, the log is open, and this is how it ended.
  pub record Imaging (old new : LogFile) (disk : D) (why : Option Fault) : Type 0 where
    pub still : d.failed disk ≡ false → IsOpen d new disk
    pub ends : ImagingEnds old new disk why
