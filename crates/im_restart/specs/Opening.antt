-- How an opening of a store may end.
use Rattle.std.specs.Prelude.{◌≡◌, ℕ, ◌≤◌, true, false, Option, None, Some}
use Rattle.im_base_types.specs.declared.fault.Fault.{Fault}
use Rattle.im_base_types.specs.declared.fault.Fault.TheVariants.{Device, LogFull}
use Rattle.im_base_disk.specs.declared.disk.Disk.{Ghosts}
use Rattle.im_page_writer.specs.PageWriter.{IsReadyWriter}
use Rattle.im_smo_pages.specs.Kept.{mild_to_take}
use Rattle.im_restart.specs.declared.restarted.Restarted.{Restarted}
use Rattle.im_restart.specs.Restart.{IsFullLog}

module _ {D : Type 0} (d : Ghosts D) where
  -- How it ends, by its refusal, if it was refused: `Device` just where the disk has failed, `LogFull` only with a log that is full, and else for want of memory, for bytes that are no store's, or where page numbers or levels are used up.
  abbrev pub OpeningEnds : D → Option Fault → Type 0
  OpeningEnds new None = d.failed new ≡ false
  OpeningEnds new (Some Device) = d.failed new ≡ true
  OpeningEnds new (Some LogFull) = (d.failed new ≡ false) × (d.tells → IsFullLog (d.seen new))
  OpeningEnds new (Some e) = (mild_to_take e ≡ true) × (d.failed new ≡ false)

  -- the outcome of an opening
  pub record Opens (new : D) (why : Option Fault) : Type 0 where
    pub ends : OpeningEnds new why

  -- A store was brought back: its writer of pages works, with so many frames, and its transactions have numbers from 1 on.
  pub record IsRestarted (frames : ℕ) (r : Restarted) (disk : D) : Type 0 where
    pub ready : IsReadyWriter d r.writer disk
    pub works : r.writer.failed ≡ false
    pub pool : r.writer.pool.frames ≡ frames
    pub least : 1 ≤ r.next
