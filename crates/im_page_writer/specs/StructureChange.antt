-- What a logged record of a structure change keeps.
use Rattle.std.specs.Prelude.{◌≡◌, ◌≢◌, ℕ, None, Result, IfErr, IfOk}
use Rattle.im_base_types.specs.declared.fault.Fault.{Fault}
use Rattle.im_base_types.specs.declared.fault.Fault.TheVariants.{NotAStore}
use Rattle.im_theory_log.specs.Histories.{Base}
use Rattle.im_theory_log.specs.Writer.{Writer}
use Rattle.im_base_disk.specs.declared.disk.Disk.{Ghosts}
use Rattle.im_log_record.specs.Entry.{Entry}
use Rattle.im_log.specs.Whats.{what_of}
use Rattle.im_page_writer.specs.declared.page_writer.PageWriter.{PageWriter}
use Rattle.im_page_flush.specs.Writing.{LeavesGrown}
use Rattle.im_page_writer.specs.PageWriter.{StandsAs}
use Rattle.im_page_writer.specs.LoggedChange.{LoggedKept, ChangedFrom}
use Rattle.im_page_file.specs.PageCopy.{after_in}

module _ {D : Type 0} (d : Ghosts D) (b : Base) (base : ℕ) where
  -- what it keeps of a page that is held
  pub record LeftHere (s : Writer) (entry : Entry) (old : D) (w : PageWriter) (disk : D) (result : Result ℕ Fault) : Type 0 where
    pub logged : LoggedKept d b base s entry old w disk result
    pub again : IfErr result (λ e. e ≡ NotAStore → StandsAs d b base s w disk)

  -- what it keeps of any page; it is refused as no store only where the record is of another kind, or its images are no pages
  pub record LeftKept (s : Writer) (entry : Entry) (old : D) (w : PageWriter) (disk : D) (result : Result ℕ Fault) : Type 0 where
    pub ok : IfOk result (λ lsn. ChangedFrom d b base s entry lsn old w disk)
    pub stops : LeavesGrown d b base s old disk
    pub cause : after_in (what_of entry) ≢ None → IfErr result (λ e. e ≢ NotAStore)
