-- How a call ends that reads records of the log, and takes back or logs one after them.
use Rattle.std.specs.Prelude.{◌≡◌, Bool, true, false, Option, None, Some}
use Rattle.im_base_types.specs.declared.fault.Fault.{Fault}
use Rattle.im_base_types.specs.declared.fault.Fault.TheVariants.{Capacity, Device, Failed, LogFull, Memory, NotAStore}
use Rattle.im_base_disk.specs.declared.disk.Disk.{Ghosts}
use Rattle.im_log.specs.LogFile.{HasNoRoom}
use Rattle.im_page_writer.specs.declared.page_writer.PageWriter.{PageWriter}
use Rattle.im_page_writer.specs.PageWriter.{IsReadyWriter}
use Rattle.im_page_writer.specs.Outcome.{Works, Fails}

-- ---- refusals beside `Device` and `NotAStore`

-- those of an End
abbrev pub may_be_full : Fault → Bool
may_be_full LogFull = true
may_be_full e = false

-- those of a change that is taken back, and of an End after it
abbrev pub may_turn : Fault → Bool
may_turn Capacity = true
may_turn Failed = true
may_turn LogFull = true
may_turn Memory = true
may_turn e = false

-- those of the end of a structure change: of a split, after which a change is taken back, and of a deletion
abbrev pub may_close : Bool → Fault → Bool
may_close true = may_turn
may_close false = may_be_full

module _ {D : Type 0} (d : Ghosts D) where
  -- How it ends. The writer goes on after any refusal but `Device` and `LogFull`; of `NotAStore` that is not said, since a record that could not be read leaves the writer failed.
  abbrev pub TurnEnds : (Fault → Bool) → PageWriter → PageWriter → D → Option Fault → Type 0
  TurnEnds may v w new None = Works d v w new
  TurnEnds may v w new (Some Device) = Fails d v w × (d.failed new ≡ true)
  TurnEnds may v w new (Some LogFull) = (may LogFull ≡ true) × Fails d v w × (d.failed new ≡ false) × HasNoRoom w.log
  TurnEnds may v w new (Some NotAStore) = (v.failed ≡ false) × (d.failed new ≡ false)
  TurnEnds may v w new (Some e) = (may e ≡ true) × Works d v w new

  -- The outcome of such a call.
  pub record TurnOutcome (may : Fault → Bool) (v w : PageWriter) (new : D) (why : Option Fault) : Type 0 where
    pub ready : IsReadyWriter d w new
    pub frames : w.pool.frames ≡ v.pool.frames
    pub ends : TurnEnds may v w new why
