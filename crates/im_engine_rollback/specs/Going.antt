-- Where the undo of a transaction goes on, and what reading from there comes to.
use Rattle.std.specs.Prelude.{◌≡◌, ◌≢◌, ℕ, [], Option, None, Some}
use Rattle.im_theory_log.specs.Histories.{Base, History}
use Rattle.im_base_types.specs.Records.{Logged}
use Rattle.im_theory_log.specs.Transactions.{to_undo, undo_reads}
use Rattle.im_theory_log.specs.Writer.{Writer}
use Rattle.im_base_disk.specs.declared.disk.Disk.{Ghosts}
use Rattle.im_page_writer.specs.declared.page_writer.PageWriter.{PageWriter}
use Rattle.im_page_writer.specs.PageWriter.{StandsAs}
use Rattle.im_restart_analysis.specs.Undo.{ComesTo, HasRecordAt, IsNext}

-- Undo of the transaction goes on at this LSN: it has a record there, and reading from there comes to what it has to undo next; at 0 it has nothing left.
pub record GoesOnAt (t l : ℕ) (log : History) : Type 0 where
  pub at : l ≢ 0 → HasRecordAt t l log
  pub comes : ComesTo t log (undo_reads l log)

-- What the transaction has to undo next stands at this LSN.
pub record IsNextAt (t l : ℕ) (log : History) : Type 0 where
  pub found : Logged
  pub next : IsNext t log found
  pub here : found.lsn ≡ l

-- a record read at an LSN: it is what is undone next, or undo goes on at another
abbrev pub LeadsUndo : ℕ → ℕ → History → Option ℕ → Type 0
LeadsUndo t l log None = IsNextAt t l log
LeadsUndo t l log (Some next) = GoesOnAt t next log

-- the LSN of what is undone next, 0 where nothing is left
pub record IsFound (t l : ℕ) (log : History) : Type 0 where
  pub some : l ≢ 0 → IsNextAt t l log
  pub none : l ≡ 0 → to_undo t log ≡ []

module _ {D : Type 0} (d : Ghosts D) (b : Base) (base : ℕ) where
  -- what reading one record comes to, after which the writer stands as it did
  abbrev pub ReadOne : Writer → ℕ → ℕ → PageWriter → D → Option ℕ → Type 0
  ReadOne s t l w disk next = StandsAs d b base s w disk × LeadsUndo t l s.log next

  -- and reading up to the next record to undo
  abbrev pub Finds : Writer → ℕ → PageWriter → D → ℕ → Type 0
  Finds s t w disk lsn = StandsAs d b base s w disk × IsFound t lsn s.log
