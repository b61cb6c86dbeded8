-- A key that comes back into a leaf that is split first, over several steps; and what comes after a structure change of a rollback.
use Rattle.std.specs.Prelude.{◌≡◌, ◌⊎◌, ◌++◌, ℕ, Bool, true, false, List, [], ◌∷◌, Some, Result, IfErr}
use Rattle.im_base_types.specs.declared.fault.Fault.{Fault}
use Rattle.im_base_types.specs.declared.fault.Fault.TheVariants.{Capacity, Failed, Memory}
use Rattle.im_base_types.specs.Keys.{Key}
use Rattle.im_base_types.specs.Pages.{Body, Page}
use Rattle.im_base_types.specs.Records.{DeleteKey, Smo, Logged}
use Rattle.im_theory_log.specs.Histories.{Base, History, IsFront}
use Rattle.im_theory_log.specs.Lawful.{IsLawful}
use Rattle.im_theory_log.specs.Structure.{settled}
use Rattle.im_theory_log.specs.Transactions.{undo_reads}
use Rattle.im_theory_log.specs.Writer.{Writer}
use Rattle.im_base_disk.specs.declared.disk.Disk.{Ghosts}
use Rattle.im_log_record.specs.Entry.{Entry}
use Rattle.im_page_writer.specs.declared.page_writer.PageWriter.{PageWriter}
use Rattle.im_page_writer.specs.Outcome.{IsSound}
use Rattle.im_theory_page.specs.Split.{HasRoom}
use Rattle.im_theory_tree.specs.Search.{IsOnWay}
use Rattle.im_theory_tree.specs.Theory.{page_tree}
use Rattle.im_tree_search.specs.declared.change_beside.Beside.{Beside}
use Rattle.im_smo_pages.specs.Images.{Numbered, image_of, held}
use Rattle.im_smo_log.specs.BetweenSteps.{AreBeside}
use Rattle.im_smo_log.specs.Logged.{dummy_at}
use Rattle.im_smo_log.specs.Under.{IsUnderWay}
use Rattle.im_smo_actions.specs.declared.planned_change.PlannedChange.{PlannedChange}
use Rattle.im_restart_undo.specs.GoingBeside.{IsGoingBeside}
use Rattle.im_restart_undo.specs.Undoing.{IsGoing, IsToUndo, LeavesUndo}
use Rattle.im_engine_rollback.specs.declared.undone.Undone.{Undone}
use Rattle.im_engine_rollback.specs.Turns.{WentOn}
use Rattle.im_engine_rollback.specs.TurnsBeside.{MadeBeside, SplitsFirst}

-- What the split is for: reading from where undo goes on after it comes to a record that dropped this key, and the key's leaf after it is this page, one of its images, with room for the key.
pub record IsSplitBack (b : Base) (undo_next : ℕ) (images : List Numbered) (log : History) : Type 0 where
  pub found : Logged
  pub reads : undo_reads undo_next log ≡ Some found
  pub key : Key
  pub rid : ℕ
  pub dropped : found.what ≡ DeleteKey key rid
  pub leaf : ℕ
  pub page : Page
  pub way : IsOnWay (held (settled b log) images) 0 key leaf
  pub image : image_of images leaf ≡ Some page
  pub room : HasRoom true page.body.entries (key, 0)

-- ---- it is so from its begin to its end

-- A split that is handed out in front of a compensation is for that.
abbrev pub SplitsBackBegin : {D : Type 0} → Ghosts D → Type 0
SplitsBackBegin {D} d = (b : Base) (base : ℕ) (s : Writer) (e t last undo_next : ℕ) (beside : Beside) (entry : Entry) (change : PlannedChange) (start : PageWriter) (old : D) (w : PageWriter) (disk : D)
    → IsGoingBeside d b base s e t last undo_next start old → IsToUndo d b base s t entry → (splits : SplitsFirst d b base s e t last undo_next beside entry change old w disk) → IsSplitBack b undo_next change.images splits.now.log

-- It is still after what others log in a step.
abbrev pub OthersLeaveSplitsBack : Type 0
OthersLeaveSplitsBack = (b : Base) (t undo_next : ℕ) (images : List Numbered) (done prev : ℕ) (more older : History) → IsUnderWay b t undo_next images done prev older → IsLawful b page_tree (more ++ older) → AreBeside t images more
    → IsSplitBack b undo_next images older → IsSplitBack b undo_next images (more ++ older)

-- And after a page of its own.
abbrev pub PagesLeaveSplitsBack : Type 0
PagesLeaveSplitsBack = (b : Base) (undo_next : ℕ) (images : List Numbered) (r : Logged) (older : History) (was new : Body) → IsLawful b page_tree (r ∷ older) → r.what ≡ Smo was new → IsSplitBack b undo_next images older
    → IsSplitBack b undo_next images (r ∷ older)

-- ---- after the change

module _ {D : Type 0} (d : Ghosts D) (b : Base) (base : ℕ) where
  -- The record that closes the change joined the log, and none is open.
  pub record ClosedBack (s : Writer) (e t last undo_next lsn : ℕ) (closed : Writer) (w : PageWriter) (disk : D) : Type 0 where
    pub log : closed.log ≡ dummy_at lsn t last undo_next ∷ s.log
    pub going : IsGoing d b base closed e t lsn undo_next w disk
    pub point : closed.point ≡ s.point
    pub durable : IsFront s.durable closed.durable

  -- A split is closed, and then the key came back by a compensation alone, as in a turn beside no change.
  pub record SplitClosed (ends : Bool) (s : Writer) (e t last undo_next : ℕ) (w : PageWriter) (disk : D) (undone : Undone) : Type 0 where
    pub lsn : ℕ
    pub closed : Writer
    pub between : PageWriter
    pub mid : D
    pub shut : ClosedBack s e t last undo_next lsn closed between mid
    pub beside : Beside
    pub none : beside.pages.now ≡ []
    pub turned : MadeBeside d b base ends closed e t beside mid w disk undone

  -- A deletion is closed, and then the transaction ended, where it had nothing left to undo and ends so.
  pub record DropClosed (ends : Bool) (s : Writer) (e t last undo_next : ℕ) (w : PageWriter) (disk : D) (undone : Undone) : Type 0 where
    pub lsn : ℕ
    pub closed : Writer
    pub between : PageWriter
    pub mid : D
    pub shut : ClosedBack s e t last undo_next lsn closed between mid
    pub went : WentOn d b base ends closed e t lsn undo_next w disk undone

  -- By whether it splits, and whether the transaction ends with its last change.
  abbrev pub BackClosed : (splits ends : Bool) → Writer → (e t last undo_next : ℕ) → PageWriter → D → Undone → Type 0
  BackClosed true ends s e t last undo_next w disk undone = SplitClosed ends s e t last undo_next w disk undone
  BackClosed false ends s e t last undo_next w disk undone = DropClosed ends s e t last undo_next w disk undone

  -- What that keeps. It is refused neither for want of memory nor of page numbers, nor as failed.
  pub record CloseBackKept (splits ends : Bool) (s : Writer) (e t last undo_next : ℕ) (old : D) (w : PageWriter) (disk : D) (result : Result Undone Fault) : Type 0 where
    pub sound : IsSound result (λ undone. BackClosed splits ends s e t last undo_next w disk undone)
    pub stops : LeavesUndo d b base s t old disk
    pub never : IfErr result (λ e. (e ≡ Memory) ⊎ (e ≡ Capacity) ⊎ (e ≡ Failed) → ⊥)
