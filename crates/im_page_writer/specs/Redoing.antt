-- What the calls of redo keep: a noted copy loaded, a record applied, a record read again.
use Rattle.std.specs.Prelude.{◌≡◌, ◌≢◌, ◌<◌, ◌⊎◌, ◌||◌, ℕ, length, Bool, true, false, Some, Result, IfErr, IfOk, OnOk}
use Rattle.im_base_types.specs.declared.fault.Fault.{Fault}
use Rattle.im_base_types.specs.declared.fault.Fault.TheVariants.{NotAStore}
use Rattle.im_base_types.specs.Pages.{Page}
use Rattle.im_base_types.specs.Records.{What, Logged}
use Rattle.im_theory_log.specs.Histories.{Base, changes_page, page_after}
use Rattle.im_theory_log.specs.Copies.{copy_in}
use Rattle.im_theory_log.specs.Writer.{Writer}
use Rattle.im_theory_log.specs.WriterSteps.{applies, at_point, is_copied, loaded}
use Rattle.im_base_disk.specs.declared.disk.Disk.{Ghosts}
use Rattle.im_page_pool.specs.declared.frame.Frame.{Frame}
use Rattle.im_page_pool.specs.Pool.{PoolView, Holds, IsAt, Sets, Takes, page_at}
use Rattle.im_page_table.specs.DirtyTable.{TableView, ChangesEntry}
use Rattle.im_page_writer.specs.declared.page_writer.PageWriter.{PageWriter}
use Rattle.im_page_file.specs.Stands.{LeavesCovered}
use Rattle.im_page_table.specs.KnownCopies.{redone_as}
use Rattle.im_page_table.specs.Growth.{Keeps}
use Rattle.im_page_flush.specs.Writing.{LeavesGrown}
use Rattle.im_page_writer.specs.PageWriter.{StandsAs}
use Rattle.im_page_rounds.specs.OnePage.{PageTakes}

-- It is said whether a record of this kind changes a page. Where it does, the held page is changed by it, and otherwise nothing is.
pub record AppliedTo (lsn : ℕ) (what : What) (frame : Frame) (old : PoolView) (done : Bool) (new : PoolView) : Type 0 where
  pub changes : done ≡ changes_page what
  pub set : done ≡ true → Sets frame (page_after lsn what (page_at old frame.number)) true old new
  pub same : done ≡ false → new ≡ old

-- A page that was not held is the full copy that the record at an LSN holds, and has the entry of a page that is changed from the redo
-- point on.
pub record LoadedHere (point lsn : ℕ) (what : What) (number : ℕ) (old new : PageWriter) : Type 0 where
  pub frame : Frame
  pub here : frame.number ≡ number
  pub takes : Takes frame (page_at new.pool number) true old.pool new.pool
  pub copy : copy_in lsn what ≡ Some (page_at new.pool number)
  pub entered : ChangesEntry number (λ o. at_point true point) old.table new.table

-- A held page is changed by the record at an LSN, and has such an entry, where the record's kind changes a page; otherwise nothing is.
pub record RedoneHere (known : Bool) (point lsn : ℕ) (what : What) (number : ℕ) (old : PageWriter) (done : Bool) (new : PageWriter) : Type 0 where
  pub frame : Frame
  pub here : frame.number ≡ number
  pub at : IsAt old.pool frame
  pub applied : AppliedTo lsn what frame old.pool done new.pool
  pub entered : done ≡ true → ChangesEntry number (λ o. at_point (known || is_copied o) point) old.table new.table
  pub same : done ≡ false → new.table ≡ old.table

-- A page is held or may be, and the dirty table takes its entry.
pub record HasRooms (number : ℕ) (pool : PoolView) (table : TableView) : Type 0 where
  pub frame : Holds pool number ⊎ (length pool.held < pool.frames)
  pub entry : length table.entries < table.most

-- A held page does not take the record.
pub record LacksTaker (what : What) (number : ℕ) (pool : PoolView) : Type 0 where
  pub held : Holds pool number
  pub lacks : ¬ (PageTakes what (page_at pool number))

module _ {D : Type 0} (d : Ghosts D) (b : Base) (base : ℕ) where
  -- Each page was as before, the log had Images more, and then the page's noted copy was loaded.
  pub record LoadedFrom (s : Writer) (p : ℕ) (copy : Page) (old : D) (w : PageWriter) (disk : D) : Type 0 where
    pub before : Writer
    pub keeps : Keeps b s before
    pub stops : LeavesCovered d b base s.durable before.log old disk
    pub stands : StandsAs d b base (loaded p copy before) w disk

  -- what the load of a copy keeps
  pub record LoadKept (s : Writer) (p : ℕ) (copy : Page) (old : D) (w : PageWriter) (disk : D) (result : Result Unit Fault) : Type 0 where
    pub ok : OnOk result (LoadedFrom s p copy old w disk)
    pub stops : LeavesGrown d b base s old disk
    pub cause : IfErr result (λ e. e ≢ NotAStore)

  -- Each page was as before, the log had Images more, and then redo went past the record.
  pub record RedoneFrom (s : Writer) (r : Logged) (old : D) (w : PageWriter) (disk : D) : Type 0 where
    pub before : Writer
    pub keeps : Keeps b s before
    pub stops : LeavesCovered d b base s.durable before.log old disk
    -- whether a full copy of the page is known
    pub known : Bool
    pub stands : StandsAs d b base (redone_as known r before) w disk

  -- what redo of a record keeps; it is refused as no store only where the page needs the record and does not take it
  pub record RedoKept (s : Writer) (r : Logged) (old : D) (w : PageWriter) (disk : D) (result : Result Bool Fault) : Type 0 where
    pub ok : OnOk result (RedoneFrom s r old w disk)
    pub applied : IfOk result (λ done. done ≡ applies r r.page (s.pages r.page).page)
    pub stops : LeavesGrown d b base s old disk
    pub cause : (applies r r.page (s.pages r.page).page ≡ true → PageTakes r.what (s.pages r.page).page) → IfErr result (λ e. e ≢ NotAStore)
