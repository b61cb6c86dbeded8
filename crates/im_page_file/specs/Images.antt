-- An Image of a page joins the log.
use Rattle.std.specs.Prelude.{◌≡◌, ◌≢◌, ℕ, false, List, [], None, Some, Result, IfOk}
use Rattle.im_base_types.specs.declared.fault.Fault.{Fault}
use Rattle.im_theory_log.specs.Histories.{Base, History, IsFront}
use Rattle.im_theory_log.specs.Writer.{Writer}
use Rattle.im_base_disk.specs.declared.disk.Disk.{Ghosts}
use Rattle.im_log.specs.declared.log_file.LogFile.{LogFile}
use Rattle.im_theory_page.specs.Page.{page_of}
use Rattle.im_page_table.specs.Growth.{with_image}
use Rattle.im_page_table.specs.DirtyTable.{TableView}
use Rattle.im_page_file.specs.Stands.{Stands, LeavesCovered}

-- What it asks: the page has its copy, and these are its bytes. While redo goes on the log is not empty.
pub record MayLogImage (s : Writer) (p : ℕ) (bytes : List ℕ) : Type 0 where
  pub ready : (s.pages p).waits ≡ false
  pub page : page_of bytes ≡ Some (s.pages p).page
  pub begun : s.redo_end ≡ None → s.log ≢ []

module _ {D : Type 0} (d : Ghosts D) (b : Base) (base : ℕ) where
  -- The Image joined the log, of which more may be durable than before.
  pub record Imaged (s : Writer) (p lsn : ℕ) (log : LogFile) (table : TableView) (disk : D) : Type 0 where
    pub durable : History
    pub grows : IsFront s.durable durable
    pub stands : Stands d b base (with_image lsn p durable s) log table disk

  -- what the append of an Image keeps
  pub record ImageKept (s : Writer) (p : ℕ) (table : TableView) (old_disk : D) (new : LogFile) (new_disk : D) (result : Result ℕ Fault) : Type 0 where
    pub ok : IfOk result (λ lsn. Imaged s p lsn new table new_disk)
    pub stops : LeavesCovered d b base s.durable s.log old_disk new_disk
