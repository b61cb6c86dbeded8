-- Undo as it goes on: what is known between two calls.
use Rattle.std.specs.Prelude.{◌≡◌, ℕ, Bool, true, false, Some, Result}
use Rattle.im_base_types.specs.declared.fault.Fault.{Fault}
use Rattle.im_theory_log.specs.Histories.{Base, History, IsFront, page_at}
use Rattle.im_theory_log.specs.Writer.{Writer}
use Rattle.im_base_disk.specs.declared.disk.Disk.{Ghosts}
use Rattle.im_base_disk.specs.Runs.{LeavesOnly}
use Rattle.im_page_writer.specs.declared.page_writer.PageWriter.{PageWriter}
use Rattle.im_page_writer.specs.PageWriter.{StandsAs}
use Rattle.im_theory_tree.specs.Theory.{page_tree}
use Rattle.im_restart_analysis.specs.Losers.{is_loser, row_of}
use Rattle.im_restart_analysis.specs.Undo.{IsUndoable}
use Rattle.im_restart.specs.Undone.{GrowsByRestart}
use Rattle.im_restart.specs.UndoOrder.{IsInOrder}
use Rattle.im_restart.specs.Restart.{IsLeftUndoing, RestartSound}
use Rattle.im_restart.specs.LoserChains.{ChainMap, AreChains, nobody, SparesOthers}

-- ---- the log and the pages

-- Redo is over, the log is the one that was found with records of undo, no structure change is open, and each page is what the log made of it.
pub record IsUndoing (b : Base) (all : History) (now : Writer) : Type 0 where
  pub redo_end : ℕ
  pub over : now.redo_end ≡ Some redo_end
  pub grown : GrowsByRestart all now.log
  pub order : IsInOrder all now.log
  pub found : IsFront all now.durable
  pub can : IsUndoable b page_tree now.log
  pub pages : (p : ℕ) → (now.pages p).page ≡ page_at b now.log p

module _ {D : Type 0} (d : Ghosts D) (b : Base) (base : ℕ) (all : History) where
  -- Calls in a row, since the writer stood so: how it stands now, and what a stop since then has left.
  pub record UndoGoes (s : Writer) (old : D) (t : Writer) (w : PageWriter) (disk : D) : Type 0 where
    pub stands : StandsAs d b base t w disk
    pub undoing : IsUndoing b all t
    pub stops : LeavesOnly d old disk (IsLeftUndoing b base all)
    pub on : IsFront s.log t.log

  -- ---- a compensation

  -- It is taken back: the loser's records end at this LSN, and its undo goes on at this one.
  pub record Compensated (s : Writer) (t : ℕ) (on lsn : ℕ) (old : D) (w : PageWriter) (disk : D) : Type 0 where
    pub now : Writer
    pub goes : UndoGoes s old now w disk
    pub others : SparesOthers t s.log now.log
    pub loser : is_loser t now.log ≡ true
    pub row : row_of t now.log ≡ record { last = lsn; undo_next = on }

  -- what a compensation keeps
  abbrev pub CompensateKept : Writer → ℕ → ℕ → D → PageWriter → D → Result ℕ Fault → Type 0
  CompensateKept s t on old w disk result = RestartSound d b base all (λ lsn. Compensated s t on lsn old w disk) old disk result

  -- ---- an End

  -- The loser has ended.
  pub record Ended (s : Writer) (t : ℕ) (old : D) (w : PageWriter) (disk : D) : Type 0 where
    pub now : Writer
    pub goes : UndoGoes s old now w disk
    pub others : SparesOthers t s.log now.log
    pub ended : is_loser t now.log ≡ false

  -- what an End keeps
  abbrev pub EndKept : Writer → ℕ → D → PageWriter → D → Result Unit Fault → Type 0
  EndKept s t old w disk result = RestartSound d b base all (λ u. Ended s t old w disk) old disk result

  -- ---- a step

  -- The map is right after the calls.
  pub record Stepped (s : Writer) (t : ℕ) (out : ℕ → Bool) (old : D) (w : PageWriter) (chains : ChainMap) (disk : D) : Type 0 where
    pub now : Writer
    pub goes : UndoGoes s old now w disk
    pub others : SparesOthers t s.log now.log
    pub are : AreChains out chains now.log

  -- what a step keeps
  abbrev pub StepKept : Writer → ℕ → (ℕ → Bool) → D → PageWriter → ChainMap → D → Result Unit Fault → Type 0
  StepKept s t out old w chains disk result = RestartSound d b base all (λ u. Stepped s t out old w chains disk) old disk result

  -- ---- all of them

  -- Each loser is in the map.
  pub record Entered (s : Writer) (old : D) (w : PageWriter) (chains : ChainMap) (disk : D) : Type 0 where
    pub now : Writer
    pub goes : UndoGoes s old now w disk
    pub are : AreChains nobody chains now.log

  -- what entering them keeps
  abbrev pub EnterKept : Writer → D → PageWriter → ChainMap → D → Result Unit Fault → Type 0
  EnterKept s old w chains disk result = RestartSound d b base all (λ u. Entered s old w chains disk) old disk result

  -- No loser is left.
  pub record AllUndone (s : Writer) (old : D) (w : PageWriter) (disk : D) : Type 0 where
    pub now : Writer
    pub goes : UndoGoes s old now w disk
    pub ended : (t : ℕ) → is_loser t now.log ≡ false

  -- what undo keeps
  abbrev pub UndoKept : Writer → D → PageWriter → D → Result Unit Fault → Type 0
  UndoKept s old w disk result = RestartSound d b base all (λ u. AllUndone s old w disk) old disk result
