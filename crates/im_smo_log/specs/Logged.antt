-- The records of a structure change, and what logging one of its pages keeps.
use Rattle.std.specs.Prelude.{◌≡◌, ◌<◌, ◌≤◌, ◌+◌, max, ℕ, Bool, Result, IfErr}
use Rattle.im_base_types.specs.declared.fault.Fault.{Fault}
use Rattle.im_base_types.specs.declared.fault.Fault.TheVariants.{Failed}
use Rattle.im_base_types.specs.Pages.{Body}
use Rattle.im_base_types.specs.Records.{Logged, Smo, DummyClr}
use Rattle.im_theory_log.specs.Histories.{Base, History, IsFront, end_of}
use Rattle.im_theory_log.specs.Writer.{Writer}
use Rattle.im_base_disk.specs.declared.disk.Disk.{Ghosts}
use Rattle.im_page_writer.specs.declared.page_writer.PageWriter.{PageWriter}
use Rattle.im_page_table.specs.KnownCopies.{changed_as}
use Rattle.im_page_table.specs.Growth.{Keeps}
use Rattle.im_page_flush.specs.Writing.{LeavesGrown}
use Rattle.im_page_writer.specs.Outcome.{IsSound}
use Rattle.im_page_writer.specs.PageWriter.{StandsAs, Evicted}

-- the record of one page, with what it says before and after
abbrev pub smo_at : (lsn t prev p : ℕ) → Body → Body → Logged
smo_at lsn t prev p was now = record { lsn = lsn; txn = t; prev = prev; undo_next = 0; page = p; what = Smo was now }

-- the record that closes a structure change
abbrev pub dummy_at : (lsn t prev undo_next : ℕ) → Logged
dummy_at lsn t prev undo_next = record { lsn = lsn; txn = t; prev = prev; undo_next = undo_next; page = 0; what = DummyClr }

module _ {D : Type 0} (d : Ghosts D) (b : Base) (base : ℕ) where
  -- Each page was as before, the log had Images more, and then the page's record joined it, with the page as it was and as it is now. Where it is page 0, the highest page of the change bounds its page count.
  pub record PageLogged (s : Writer) (t prev p highest : ℕ) (after : Body) (lsn : ℕ) (w : PageWriter) (disk : D) : Type 0 where
    pub before : Writer
    pub keeps : Keeps b s before
    pub durable : History
    pub grows : IsFront before.durable durable
    pub high : end_of b before.log < lsn
    -- the page count is no more than before, or than the one after the highest page
    pub counted : p ≡ 0 → after.leftmost ≤ max (s.pages p).page.body.leftmost (highest + 1)
    -- whether a full copy of the page is known
    pub known : Bool
    pub stands : StandsAs d b base (record (changed_as known (smo_at lsn t prev p (s.pages p).page.body after) before) { durable = durable }) w disk

  -- what that keeps
  pub record PageLogKept (s : Writer) (t prev p highest : ℕ) (after : Body) (old : D) (w : PageWriter) (disk : D) (result : Result ℕ Fault) : Type 0 where
    pub sound : IsSound result (λ lsn. PageLogged s t prev p highest after lsn w disk)
    pub stops : LeavesGrown d b base s old disk

  -- What logging the page of an image keeps. Where it is refused `Failed`, each page is as it was, and the log has Images more.
  pub record ImageLogKept (s : Writer) (t prev p highest : ℕ) (after : Body) (old : D) (w : PageWriter) (disk : D) (result : Result ℕ Fault) : Type 0 where
    pub sound : IsSound result (λ lsn. PageLogged s t prev p highest after lsn w disk)
    pub stops : LeavesGrown d b base s old disk
    pub late : IfErr result (λ e. e ≡ Failed → Evicted d b base s old w disk)
