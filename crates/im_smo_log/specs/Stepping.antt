-- What one page of a structure change keeps that is made page by page, and its end.
use Rattle.std.specs.Prelude.{◌≡◌, ◌-◌, ℕ, suc, Bool, ◌∷◌, length, Result}
use Rattle.im_base_types.specs.declared.fault.Fault.{Fault}
use Rattle.im_theory_log.specs.Histories.{Base, History}
use Rattle.im_theory_log.specs.Writer.{Writer}
use Rattle.im_base_disk.specs.declared.disk.Disk.{Ghosts}
use Rattle.im_log_record.specs.Entry.{DummyClr}
use Rattle.im_page_writer.specs.declared.page_writer.PageWriter.{PageWriter}
use Rattle.im_page_file.specs.Stands.{LeavesCovered}
use Rattle.im_page_flush.specs.Writing.{LeavesGrown}
use Rattle.im_page_writer.specs.Outcome.{IsSound}
use Rattle.im_page_writer.specs.PageWriter.{LoggedOnly}
use Rattle.im_smo_pages.specs.Images.{image_at}
use Rattle.im_smo_log.specs.declared.change.Change.{Change}
use Rattle.im_smo_log.specs.Logged.{smo_at, dummy_at, PageLogged}
use Rattle.im_smo_log.specs.Marks.{marked_if}
use Rattle.im_smo_log.specs.Under.{IsUnderWay}
use Rattle.im_smo_log.specs.GoingOn.{HasClosed}

-- where a structure change stands in the log
abbrev pub Goes : Base → Change → History → Type 0
Goes b c log = IsUnderWay b c.transaction c.undo_next c.images c.done c.last log

module _ {D : Type 0} (d : Ghosts D) (b : Base) (base : ℕ) where
  -- The next page is logged, with the mark where it is asked for, and nothing else of the change is another. Where it was under way, whatever others had logged, it is so still.
  pub record Stepped (s : Writer) (c : Change) (marked : Bool) (new : Change) (w : PageWriter) (disk : D) : Type 0 where
    pub logged : PageLogged d b base s c.transaction c.last (image_at c.images c.done).0 (image_at c.images (length c.images - 1)).0 (marked_if marked (image_at c.images c.done).1.body) new.last w disk
    pub images : new.images ≡ c.images
    pub done : new.done ≡ suc c.done
    pub owner : new.transaction ≡ c.transaction
    pub leads : new.undo_next ≡ c.undo_next
    pub goes : Goes b c s.log
        → IsUnderWay b c.transaction c.undo_next c.images (suc c.done) new.last (smo_at new.last c.transaction c.last (image_at c.images c.done).0 (s.pages (image_at c.images c.done).0).page.body (marked_if marked (image_at c.images c.done).1.body) ∷ logged.before.log)

  -- what that keeps
  pub record StepKept (s : Writer) (c : Change) (marked : Bool) (old : D) (new : Change) (w : PageWriter) (disk : D) (result : Result Unit Fault) : Type 0 where
    pub sound : IsSound result (λ _. Stepped s c marked new w disk)
    pub stops : LeavesGrown d b base s old disk

  -- The record that closes it joined the log. Where it was under way, it is closed now.
  pub record Closed (s : Writer) (c : Change) (lsn : ℕ) (w : PageWriter) (disk : D) : Type 0 where
    pub logged : LoggedOnly d b base s (DummyClr c.transaction c.last c.undo_next) lsn w disk
    pub goes : Goes b c s.log → HasClosed b c.transaction c.undo_next lsn (dummy_at lsn c.transaction c.last c.undo_next ∷ s.log)

  -- what that keeps
  pub record CloseKept (s : Writer) (c : Change) (old : D) (w : PageWriter) (disk : D) (result : Result ℕ Fault) : Type 0 where
    pub sound : IsSound result (λ lsn. Closed s c lsn w disk)
    pub stops : LeavesCovered d b base s.durable s.log old disk
