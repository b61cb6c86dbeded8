-- What a record that changes a leaf keeps.
use Rattle.std.specs.Prelude.{◌≡◌, ◌≢◌, ◌<◌, ℕ, Bool, false, None, Result, IfErr, IfOk, OnOk}
use Rattle.im_base_types.specs.declared.fault.Fault.{Fault}
use Rattle.im_base_types.specs.declared.fault.Fault.TheVariants.{NotAStore}
use Rattle.im_base_types.specs.Pages.{Page}
use Rattle.im_base_types.specs.Records.{What}
use Rattle.im_theory_log.specs.Histories.{Base, History, IsFront, end_of, page_after}
use Rattle.im_theory_log.specs.Copies.{copy_in}
use Rattle.im_theory_log.specs.RedoPoints.{is_checkpoint}
use Rattle.im_theory_log.specs.Writer.{Writer}
use Rattle.im_base_disk.specs.declared.disk.Disk.{Ghosts}
use Rattle.im_log_record.specs.Entry.{Entry, page_of}
use Rattle.im_log.specs.Spelled.{logged_at}
use Rattle.im_log.specs.Whats.{what_of}
use Rattle.im_page_pool.specs.declared.frame.Frame.{Frame}
use Rattle.im_page_writer.specs.declared.page_writer.PageWriter.{PageWriter}
use Rattle.im_page_table.specs.KnownCopies.{changed_as}
use Rattle.im_page_file.specs.Stands.{LeavesCovered}
use Rattle.im_page_table.specs.Growth.{Keeps}
use Rattle.im_page.specs.LeafChange.{LeafTakes}
use Rattle.im_page_flush.specs.Writing.{LeavesGrown}
use Rattle.im_page_writer.specs.PageWriter.{StandsAs, Evicted, StaysOn}

-- A record of the one kind changes a page as one of the other does, has no full copy, and does not move the redo point; a leaf that takes the one takes the other.
pub record IsLike (w v : What) : Type 0 where
  pub after : (l : ℕ) (g : Page) → page_after l w g ≡ page_after l v g
  pub copy : (l : ℕ) → copy_in l w ≡ None
  pub point : is_checkpoint w ≡ false
  pub takes : (g : Page) → LeafTakes w g → LeafTakes v g

module _ {D : Type 0} (d : Ghosts D) (b : Base) (base : ℕ) where
  -- what a get with room keeps
  pub record HeldKept (s : Writer) (old : D) (w : PageWriter) (disk : D) (result : Result Frame Fault) : Type 0 where
    pub ok : OnOk result (Evicted d b base s old w disk)
    pub stops : LeavesGrown d b base s old disk
    pub cause : IfErr result (λ e. e ≢ NotAStore)
    pub again : StaysOn d b base s old w disk result

  -- The record joined the log, of which more may be durable than before, and its page is changed by it.
  pub record LoggedHere (s : Writer) (entry : Entry) (lsn : ℕ) (w : PageWriter) (disk : D) : Type 0 where
    pub durable : History
    pub grows : IsFront s.durable durable
    -- whether a full copy of the page is known
    pub known : Bool
    pub stands : StandsAs d b base (record (changed_as known (logged_at lsn entry) s) { durable = durable }) w disk
    pub high : end_of b s.log < lsn

  -- what that keeps of a page that is held
  pub record LoggedKept (s : Writer) (entry : Entry) (old : D) (w : PageWriter) (disk : D) (result : Result ℕ Fault) : Type 0 where
    pub ok : IfOk result (λ lsn. LoggedHere s entry lsn w disk)
    pub stops : LeavesCovered d b base s.durable s.log old disk

  -- Each page was as before, the log had Images more, and then the record joined it.
  pub record ChangedFrom (s : Writer) (entry : Entry) (lsn : ℕ) (old : D) (w : PageWriter) (disk : D) : Type 0 where
    pub before : Writer
    pub keeps : Keeps b s before
    pub stops : LeavesCovered d b base s.durable before.log old disk
    pub logged : LoggedHere before entry lsn w disk

  -- what a logged change keeps; it is refused as no store only where the page doesn't take the record
  pub record ChangeKept (s : Writer) (entry : Entry) (old : D) (w : PageWriter) (disk : D) (result : Result ℕ Fault) : Type 0 where
    pub ok : IfOk result (λ lsn. ChangedFrom s entry lsn old w disk)
    pub stops : LeavesGrown d b base s old disk
    pub cause : LeafTakes (what_of entry) (s.pages (page_of entry)).page → IfErr result (λ e. e ≢ NotAStore)
