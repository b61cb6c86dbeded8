-- What the calls of an engine keep.
use Rattle.std.specs.Prelude.{◌≡◌, ◌≢◌, ◌⊎◌, ◌<◌, ◌++◌, [], ◌∷◌, ℕ, List, Option, Some, None, Result, Ok, Err, IfOk, IfErr, true, false}
use Rattle.std.specs.FinMap.{empty, entries}
use Rattle.im_base_types.specs.Answers.{Step, Reply, FlushPage, Force, Checkpoint, Switch, Done}
use Rattle.im_base_types.specs.declared.file_id.FileId.TheVariants.{Log, Pages}
use Rattle.im_base_types.specs.declared.fault.Fault.{Fault}
use Rattle.im_base_types.specs.declared.tables.DirtyPage.{DirtyPage}
use Rattle.im_base_types.specs.declared.fault.Fault.TheVariants.{Capacity, NotAStore}
use Rattle.im_base_types.specs.Pages.{Entry}
use Rattle.im_base_types.specs.Changes.{Effect, apply_all}
use Rattle.im_theory_log.specs.Copies.{GrowsByImages}
use Rattle.im_theory_log.specs.Histories.{Base, History, end_of, page_at}
use Rattle.im_theory_log.specs.WriterSteps.{Lists}
use Rattle.im_theory_switch.specs.Switch.{base_after}
use Rattle.im_base_types.specs.Lives.{Shown, effects, nothing_shown, shows}
use Rattle.im_base_disk.specs.declared.disk.Disk.{Ghosts}
use Rattle.im_base_two_logs.specs.Renamed.{named}
use Rattle.im_base_two_logs.specs.Runs.{LeavesNamed}
use Rattle.im_log_gate.specs.Header.{first_gate, least_number}
use Rattle.im_restart_analysis.specs.Numbers.{IsNextNumber}
use Rattle.im_theory_page.specs.PageFile.{file_page}
use Rattle.im_page_table.specs.DirtyTable.{FitsRecord}
use Rattle.im_page_writer.specs.Checkpoints.{checkpoint_at}
use Rattle.im_engine_checkpoint.specs.Rows.{listed}
use Rattle.im_theory_machine.specs.Locks.{Lock}
use Rattle.im_theory_machine.specs.View.{View, broken}
use Rattle.im_theory_machine.specs.Machine.{Moves, start}
use Rattle.im_base_types.specs.Faults.{number_of}
use Rattle.im_restart.specs.Restart.{IsReport, RunsOut}
use Rattle.im_engine.specs.declared.engine.Engine.{Engine}
use Rattle.im_engine.specs.Aims.{under_of}
use Rattle.im_engine.specs.Stands.{StandsFor, Allowed}
use Rattle.im_engine.specs.Running.{IsRunning, IsLife}
use Rattle.im_engine.specs.Growing.{GrowsAs}

-- the number of a refusal, if there is one
abbrev pub numbered : Option Fault → Option ℕ
numbered None = None
numbered (Some fault) = Some (number_of fault)

module _ {D : Type 0} (d : Ghosts D) where
  -- the disk that an opening answers
  abbrev pub disk_of : Result (Engine D d) (Fault × D) → D
  disk_of (Ok e) = e.disk
  disk_of (Err x) = x.1

  -- An opening of files that stand for these effects: a run of the machine begins on their map, with the number that comes next in the log that was found; a stop within leaves files
  -- that stand for the same, and the files are never found to be no store.
  pub record OpenKept (before : List Effect) (old : D) (stands : StandsFor before (d.seen old)) (result : Result (Engine D d) (Fault × D)) : Type 0 where
    pub ok : IfOk result (λ e. IsLife d before nothing_shown (start (apply_all empty before) e.txns.next) e × (e.failed ≡ false))
    pub next : IfOk result (λ e. IsNextNumber (least_number (named stands.swapped (d.seen old) Log)) e.txns.next stands.log)
    -- redo began at the redo point of the log that was found, and applied as many of its records as the report says
    pub report : IfOk result (λ e. IsReport stands.b stands.log (file_page (d.seen old Pages)) e.report)
    pub stops : LeavesNamed d old (disk_of result) (Allowed before nothing_shown)
    -- the current log is of the second format then
    pub second : IfOk result (λ e. first_gate (d.seen e.disk Log) ≡ 47)
    pub cause : IfErr result (λ x. x.0 ≢ NotAStore)
    -- page numbers or levels were used up only where undo of the log that was found came to a key that finds no room
    pub used_up : IfErr result (λ x. x.0 ≡ Capacity → RunsOut stands.b stands.log)

  -- Every record is durable: a stop leaves the whole log. Nobody waits for a force.
  pub record IsDurable (before : List Effect) (s : Shown) (v : View) (e : Engine D d) : Type 0 where
    pub b : Base
    pub running : IsRunning d b before s v e
    pub all : running.now.durable ≡ running.now.log
    pub finished : v.queue ≡ []

  -- The file of pages has the page as the log's records have made it.
  pub record IsInFile (before : List Effect) (s : Shown) (v : View) (page : ℕ) (e : Engine D d) : Type 0 where
    pub b : Base
    pub running : IsRunning d b before s v e
    pub reads : file_page (d.seen e.disk Pages) page ≡ Some (page_at b running.now.log page)

  -- A Checkpoint of both tables is the newest record, and no page was written since the last sync of its file; every record is durable. It lists the next number, the transactions that have
  -- logged a record, and exactly the pages of which something is left to be written.
  pub record IsCheckpointTaken (before : List Effect) (s : Shown) (v : View) (e : Engine D d) : Type 0 where
    pub b : Base
    pub running : IsRunning d b before s v e
    pub all : running.now.durable ≡ running.now.log
    pub lsn : ℕ
    pub dirty : List DirtyPage
    pub older : History
    pub newest : running.now.log ≡ checkpoint_at lsn e.txns.next (listed e.txns.rows) dirty ∷ older
    pub lists : Lists running.now.pages dirty
    pub synced : (p : ℕ) → (running.now.pages p).unsynced ≡ false

  -- The log has no record, and its header has the number that comes next. Every page is in the file of pages as the log found it, and nothing of any is left to be written or synced.
  pub record IsSwitched (before : List Effect) (s : Shown) (v : View) (e : Engine D d) : Type 0 where
    pub b : Base
    pub running : IsRunning d b before s v e
    pub none : running.now.log ≡ []
    pub number : least_number (d.seen e.disk Log) ≡ e.txns.next
    pub clean : (p : ℕ) → (running.now.pages p).entry ≡ None
    pub in_file : (p : ℕ) → file_page (d.seen e.disk Pages) p ≡ Some (b.pages p)
    -- nobody is active
    pub quiet : v.active ≡ 0

  -- what Done says, by the step
  abbrev pub IsDone : List Effect → Shown → View → Step → Reply → Engine D d → Type 0
  IsDone before s v (FlushPage page) Done e = IsInFile before s v page e
  IsDone before s v Force Done e = IsDurable before s v e
  IsDone before s v Checkpoint Done e = IsCheckpointTaken before s v e
  IsDone before s v Switch Done e = IsSwitched before s v e
  IsDone before s v _ _ e = Unit {0}

  -- The log grew by the records of this step and its reply, and no others.
  pub record HasGrown (before : List Effect) (s : Shown) (v : View) (step : Step) (reply : Reply) (next : View) (old new : Engine D d) : Type 0 where
    pub b : Base
    pub was : IsRunning d b before s v old
    pub now : IsRunning d b before (shows s step (Some reply)) next new
    pub grows : GrowsAs b (FitsRecord old.writer.table) (under_of old.under) (under_of new.under) reply step was.now.log now.now.log

  -- The log went on in the other file. With Images more it ended below the LSN of that file's first byte, and the pages and the map that it made are what the new one, with no record, is over.
  pub record HasTurned (before : List Effect) (s : Shown) (v : View) (step : Step) (reply : Reply) (next : View) (old new : Engine D d) : Type 0 where
    pub asked : step ≡ Switch
    pub told : reply ≡ Done
    pub b : Base
    pub was : IsRunning d b before s v old
    pub longer : History
    pub grows : GrowsByImages b was.now.log longer
    pub place : ℕ
    pub end : end_of b longer < place
    pub now : IsRunning d (base_after b longer place) before (shows s step (Some reply)) next new
    pub starts : now.base ≡ place
    pub none : now.now.log ≡ []

  -- A step: it is a step of the machine, with which the life goes on and what the reply shows; a stop within it leaves what is allowed; what Done says is so; and the log of an engine that works on has grown by the step's own records alone, or gone on in the other file.
  pub record StepKept (before : List Effect) (s : Shown) (v : View) (step : Step) (reply : Reply) (old new : Engine D d) : Type 0 where
    pub next : View
    pub moves : Moves v step reply next
    pub after : IsLife d before (shows s step (Some reply)) next new
    pub stops : LeavesNamed d old.disk new.disk (Allowed before (shows s step None))
    pub done : IsDone before (shows s step (Some reply)) next step reply new
    pub grown : new.failed ≡ false → HasGrown before s v step reply next old new ⊎ HasTurned before s v step reply next old new

  -- A call that only looks: the life goes on as it was, or the call broke the engine.
  pub record LookKept (before : List Effect) (s : Shown) (v : View) (old new : Engine D d) : Type 0 where
    pub after : ((new.failed ≡ false) × IsLife d before s v new) ⊎ ((locks : ℕ → List Lock) × IsLife d before (record s { failed = true }) (broken v locks) new)
    pub stops : LeavesNamed d old.disk new.disk (Allowed before s)

-- The entries are the walk of the machine; where it is quiet, those are the effects before the life and the asked ones.
pub record EntriesKept (before : List Effect) (s : Shown) (v : View) (list : List Entry) : Type 0 where
  pub walk : list ≡ entries v.walk
  pub quiet : v.active ≡ 0 → list ≡ entries (apply_all empty (before ++ effects s.asked))
