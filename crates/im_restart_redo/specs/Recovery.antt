-- How a call may end by which a store that is being opened is brought back.
use Rattle.std.specs.Prelude.{◌≡◌, Bool, false, true, Option, None, Some}
use Rattle.im_base_types.specs.declared.fault.Fault.{Fault}
use Rattle.im_base_types.specs.declared.fault.Fault.TheVariants.{Device, Failed, LogFull}
use Rattle.im_base_disk.specs.declared.disk.Disk.{Ghosts}
use Rattle.im_log.specs.LogFile.{HasNoRoom}
use Rattle.im_page_writer.specs.declared.page_writer.PageWriter.{PageWriter}
use Rattle.im_page_writer.specs.PageWriter.{IsReadyWriter}
use Rattle.im_page_writer.specs.Outcome.{Fails, Works}

module _ {D : Type 0} (d : Ghosts D) where
  -- How it ends, by its refusal, if it was refused. After a refusal the store is to be opened again, so nothing is said of where the writer goes on then.
  abbrev pub RecoveryEnds : (Fault → Bool) → PageWriter → PageWriter → D → Option Fault → Type 0
  RecoveryEnds may v w new None = Works d v w new
  RecoveryEnds may v w new (Some Failed) = (v.failed ≡ true) × (w.failed ≡ true)
  RecoveryEnds may v w new (Some Device) = Fails d v w × (d.failed new ≡ true)
  RecoveryEnds may v w new (Some LogFull) = Fails d v w × (d.failed new ≡ false) × HasNoRoom w.log
  RecoveryEnds may v w new (Some e) = (may e ≡ true) × (v.failed ≡ false) × (d.failed new ≡ false)

  -- The outcome of such a call: the writer is ready for the next one, its pool has as many frames, and this is how it ended. `may` says for what else it may be refused.
  pub record Recovers (may : Fault → Bool) (v w : PageWriter) (new : D) (why : Option Fault) : Type 0 where
    pub ready : IsReadyWriter d w new
    pub frames : w.pool.frames ≡ v.pool.frames
    pub ends : RecoveryEnds may v w new why
