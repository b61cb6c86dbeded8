-- What a Checkpoint keeps.
use Rattle.std.specs.Prelude.{◌≡◌, ◌⊎◌, ◌<◌, ◌≤◌, ℕ, List, ◌∷◌, length, None, Result, IfOk}
use Rattle.im_base_types.specs.declared.fault.Fault.{Fault}
use Rattle.im_base_types.specs.declared.tables.ActiveTransaction.{ActiveTransaction}
use Rattle.im_base_types.specs.declared.tables.DirtyPage.{DirtyPage}
use Rattle.im_base_types.specs.Records.{Checkpoint, Logged}
use Rattle.im_theory_log.specs.Histories.{Base, History, IsFront, end_of}
use Rattle.im_theory_log.specs.Copies.{GrowsByImages}
use Rattle.im_theory_log.specs.Writer.{Writer}
use Rattle.im_theory_log.specs.WriterSteps.{Lists, appended, forced, forgotten, synced}
use Rattle.im_base_disk.specs.declared.disk.Disk.{Ghosts}
use Rattle.im_base_disk.specs.Runs.{CostsAtMost}
use Rattle.im_page_table.specs.DirtyTable.{FitsRecord}
use Rattle.im_page_table.specs.Growth.{Keeps}
use Rattle.im_page_writer.specs.declared.page_writer.PageWriter.{PageWriter}
use Rattle.im_page_file.specs.Stands.{LeavesCovered}
use Rattle.im_page_writer.specs.PageWriter.{GoesOn, StandsAs}
use Rattle.im_page_writer.specs.Outcome.{Flushes}

-- the record of a Checkpoint: the next transaction number, the rows of the active transactions, and those of the dirty table
abbrev pub checkpoint_at : ℕ → ℕ → List ActiveTransaction → List DirtyPage → Logged
checkpoint_at lsn next active dirty = record { lsn = lsn; txn = 0; prev = 0; undo_next = 0; page = 0; what = Checkpoint next active dirty }

-- The one log is the other, and a Checkpoint of these tables, above all before.
pub record HasCheckpoint (b : Base) (next : ℕ) (active : List ActiveTransaction) (dirty : List DirtyPage) (older longer : History) : Type 0 where
  pub lsn : ℕ
  pub high : end_of b older < lsn
  pub is : longer ≡ checkpoint_at lsn next active dirty ∷ older

module _ {D : Type 0} (d : Ghosts D) (b : Base) (base : ℕ) (s : Writer) (next : ℕ) (active : List ActiveTransaction) (dirty : List DirtyPage) where
  -- ---- its record

  -- It joined the log, of which more may be durable than before, and no copy of a page counts as known.
  pub record TablesLogged (lsn : ℕ) (w : PageWriter) (disk : D) : Type 0 where
    pub durable : History
    pub grows : IsFront s.durable durable
    pub stands : StandsAs d b base (record (appended (checkpoint_at lsn next active dirty) (forgotten s)) { durable = durable }) w disk
    pub high : end_of b s.log < lsn
    pub lists : Lists s.pages dirty

  -- what its append keeps
  pub record TablesKept (old : D) (w : PageWriter) (disk : D) (result : Result ℕ Fault) : Type 0 where
    pub ok : IfOk result (λ lsn. TablesLogged lsn w disk)
    pub stops : LeavesCovered d b base s.durable s.log old disk

  -- ---- the whole

  -- The file of pages was synced, then the Checkpoint joined the log, and then the log was forced: the list has the entries that the sync
  -- left, no copy of a page counts as known, and all of the log is durable.
  pub record Checkpointed (lsn : ℕ) (w : PageWriter) (disk : D) : Type 0 where
    pub lists : Lists (synced s).pages dirty
    pub high : end_of b s.log < lsn
    pub stands : StandsAs d b base (forced (appended (checkpoint_at lsn next active dirty) (forgotten (synced s)))) w disk

  -- A stop at any moment since old leaves what redo can start from: the log as it was, or with the Checkpoint.
  pub record LeavesCheckpointed (old new : D) : Type 0 where
    pub high : History
    pub is : (high ≡ s.log) ⊎ HasCheckpoint b next active dirty s.log high
    pub stops : LeavesCovered d b base s.durable high old new

  -- what it keeps
  pub record CheckpointKept (old : D) (w : PageWriter) (disk : D) (result : Result ℕ Fault) : Type 0 where
    pub ok : IfOk result (λ lsn. Checkpointed lsn w disk)
    pub stops : LeavesCheckpointed old disk

module _ {D : Type 0} (d : Ghosts D) where
  -- What a Checkpoint costs: pages are written first, none where its record has room for the rows that a sync leaves; after them four writes at most, and five syncs.
  pub record CheckpointCosts (v : PageWriter) (old new : D) : Type 0 where
    pub w : PageWriter
    pub mid : D
    pub writes : Flushes d v old w mid None
    pub none : FitsRecord v.table → mid ≡ old
    pub calls : CostsAtMost d 4 5 mid new

module _ {D : Type 0} (d : Ghosts D) (b : Base) (base : ℕ) (s : Writer) where
  -- ---- pages that are written first

  -- Each page is as it was, the log has Images more, and a Checkpoint's record has room for the rows that a sync leaves.
  pub record RowsFit (old : D) (w : PageWriter) (disk : D) : Type 0 where
    pub now : Writer
    pub on : GoesOn d b base s old now w disk
    pub fits : FitsRecord w.table

  module _ (next : ℕ) (active : List ActiveTransaction) where
    -- Each page was as before, the log had Images more, and then the Checkpoint was taken. Its list has no more rows than its record has room for.
    pub record CheckpointedFrom (lsn : ℕ) (w : PageWriter) (disk : D) : Type 0 where
      pub before : Writer
      pub keeps : Keeps b s before
      pub dirty : List DirtyPage
      pub few : length dirty ≤ 1024
      pub taken : Checkpointed d b base before next active dirty lsn w disk

    -- A stop at any moment since old leaves what redo can start from: the log as it was, or with Images more, or with these and the Checkpoint.
    pub record LeavesCheckpointedFrom (old new : D) : Type 0 where
      pub grown : History
      pub grows : GrowsByImages b s.log grown
      pub dirty : List DirtyPage
      pub high : History
      pub is : (high ≡ grown) ⊎ HasCheckpoint b next active dirty grown high
      pub stops : LeavesCovered d b base s.durable high old new

    -- what a Checkpoint keeps, whether pages are written first or not
    pub record CheckpointFromKept (old : D) (w : PageWriter) (disk : D) (result : Result ℕ Fault) : Type 0 where
      pub ok : IfOk result (λ lsn. CheckpointedFrom lsn w disk)
      pub stops : LeavesCheckpointedFrom old disk
