-- What the records of redo keep.
use Rattle.std.specs.Prelude.{◌≡◌, ◌≤◌, ◌+◌, ◌⊎◌, ℕ, Bool, if◌then◌else◌, List, [], ◌++◌, Option, Result}
use Rattle.im_base_types.specs.declared.fault.Fault.{Fault}
use Rattle.im_base_types.specs.Pages.{Page}
use Rattle.im_theory_log.specs.Histories.{Base, History, end_of}
use Rattle.im_theory_log.specs.RedoPoints.{redo_point}
use Rattle.im_theory_log.specs.Writer.{Writer}
use Rattle.im_base_disk.specs.declared.disk.Disk.{Ghosts}
use Rattle.im_page_writer.specs.declared.page_writer.PageWriter.{PageWriter}
use Rattle.im_restart_redo.specs.Redo.{RedoSound, applied_in, first_lsn, lsns_from}
use Rattle.im_restart_redo.specs.Within.{IsWithinRedo}
use Rattle.im_page_rounds.specs.Rounds.{HaveHad}

-- The LSN of a page that redo has brought past a front of the log: the one that it had at first, or one of the front's that is above that.
pub record IsLsnBehind (b : Base) (first : ℕ) (front : History) (lsn : ℕ) : Type 0 where
  pub low : first ≤ lsn
  pub high : (lsn ≡ first) ⊎ (lsn ≤ end_of b front)

module _ {D : Type 0} (d : Ghosts D) (b : Base) (base : ℕ) (begun : History) (file : ℕ → Option Page) where
  -- Redo has gone past a front of the log.
  pub record HasPassed (front : History) (from : D) (w : PageWriter) (disk : D) : Type 0 where
    pub now : Writer
    pub within : IsWithinRedo d b base begun from now w disk
    pub had : HaveHad b front now.pages
    pub lsns : (p : ℕ) → IsLsnBehind b (first_lsn b begun file p) front (now.pages p).page.lsn

  -- Redo has gone past a front of the log, and applied so many records; after it these LSNs are those of the records from the redo point
  -- on that change a page.
  pub record IsApplying (left : List ℕ) (count : ℕ) (from : D) (w : PageWriter) (disk : D) : Type 0 where
    pub newer : History
    pub front : History
    pub split : newer ++ front ≡ begun
    pub left_is : left ≡ lsns_from (redo_point begun) newer
    pub passed : HasPassed front from w disk
    pub counted : count ≡ applied_in (first_lsn b begun file) (redo_point begun) front

  -- what a record keeps, with these left and so many applied before
  abbrev pub AppliedKept : List ℕ → ℕ → D → PageWriter → D → Result Bool Fault → Type 0
  AppliedKept left count from w disk result = RedoSound d b base begun (λ done. IsApplying left (count + (if done then 1 else 0)) from w disk) from disk result

  -- what all of them keep
  abbrev pub ApplyingKept : D → PageWriter → D → Result ℕ Fault → Type 0
  ApplyingKept from w disk result = RedoSound d b base begun (λ n. IsApplying [] n from w disk) from disk result
