-- An engine of many transactions between two steps.
use Rattle.std.specs.Prelude.{◌≡◌, ◌≤◌, ◌^◌, ℕ, List, false, Some}
use Rattle.std.specs.FinMap.{empty}
use Rattle.im_base_types.specs.Changes.{Effect, apply_all}
use Rattle.im_theory_log.specs.Histories.{Base}
use Rattle.im_theory_log.specs.Lawful.{IsLawful}
use Rattle.im_theory_log.specs.Writer.{Writer}
use Rattle.im_base_types.specs.Lives.{Shown}
use Rattle.im_base_disk.specs.declared.disk.Disk.{Ghosts}
use Rattle.im_base_disk.specs.Disk.{Files}
use Rattle.im_page_writer.specs.PageWriter.{StandsAs}
use Rattle.im_restart_analysis.specs.Orderly.{IsCounted}
use Rattle.im_theory_tree.specs.Theory.{page_tree}
use Rattle.im_theory_machine.specs.View.{View}
use Rattle.im_theory_steps.specs.Growth.{AreBelow}
use Rattle.im_theory_steps.specs.Serving.{IsServing}
use Rattle.im_theory_steps.specs.Durable.{AreCommitted}
use Rattle.im_theory_steps.specs.Lived.{IsLived}
use Rattle.im_engine.specs.declared.engine.Engine.{Engine}
use Rattle.im_engine.specs.Aims.{IsChanging, under_of}
use Rattle.im_engine.specs.Stands.{Allowed}

module _ {D : Type 0} (d : Ghosts D) where
  -- The engine works over a log that begins so: its writer of pages stands as one whose redo is over, the log is lawful, and the structure change that it has under way is the log's open one; log, machine, replies and
  -- the two tables go together; and of each Commit that was acknowledged the record is durable.
  pub record IsRunning (b : Base) (before : List Effect) (s : Shown) (v : View) (e : Engine D d) : Type 0 where
    pub base : ℕ
    pub start : b.start ≤ base
    pub counted : IsCounted b base
    pub earlier : List Effect
    pub now : Writer
    pub stands : StandsAs d b base now e.writer e.disk
    pub redo_end : ℕ
    pub over : now.redo_end ≡ Some redo_end
    pub lawful : IsLawful b page_tree now.log
    -- the structure change under way, or none is open
    pub changing : IsChanging b e.under now.log
    pub serving : IsServing b earlier before s v now.log e.txns.rows e.txns.next e.locks
    pub commits : AreCommitted earlier before s.asked now.durable now.log
    -- numbers from the next one on are new, as long as there are any
    pub numbered : e.txns.next ≤ 2 ^ 62 → AreBelow e.txns.next now.log
    -- the machine has the same under way
    pub same : v.under ≡ under_of e.under

  -- Between two steps of a life that has shown this and come to this machine: what a stop leaves is allowed, and the engine works unless it has failed.
  pub record IsLife (before : List Effect) (s : Shown) (v : View) (e : Engine D d) : Type 0 where
    pub stops : (c : Files) → d.may_leave e.disk c → Allowed before s c
    pub failed : v.failed ≡ e.failed
    pub lived : IsLived (apply_all empty before) s v
    pub running : e.failed ≡ false → (b : Base) × IsRunning b before s v e
