-- Undo of the structure change that was open, page by page.
use Rattle.std.specs.Prelude.{◌≡◌, ℕ, [], ◌∷◌, Some, Result}
use Rattle.std.specs.Ordering.{nat_cmp}
use Rattle.std.specs.BTreeMap.{Updates}
use Rattle.im_base_types.specs.declared.fault.Fault.{Fault}
use Rattle.im_base_types.specs.Records.{Logged}
use Rattle.im_theory_log.specs.Histories.{Base, History, IsFront, page_at}
use Rattle.im_theory_log.specs.Structure.{open_smo}
use Rattle.im_theory_log.specs.Lawful.{IsLawful}
use Rattle.im_theory_log.specs.Writer.{Writer}
use Rattle.im_base_disk.specs.declared.disk.Disk.{Ghosts}
use Rattle.im_base_disk.specs.Runs.{LeavesOnly}
use Rattle.im_page_writer.specs.declared.page_writer.PageWriter.{PageWriter}
use Rattle.im_page_writer.specs.PageWriter.{StandsAs}
use Rattle.im_theory_tree.specs.Theory.{page_tree}
use Rattle.im_restart_analysis.specs.Losers.{AreLosers, LoserMap}
use Rattle.im_restart.specs.Undone.{GrowsByRestart}
use Rattle.im_restart.specs.UndoOrder.{IsInOrder}
use Rattle.im_restart.specs.Restart.{IsLeftUndoing, RestartSound}

-- Redo is over, the log is the one that was found with records of undo, and each page is what the log made of it.
pub record IsTakingBack (b : Base) (all : History) (now : Writer) : Type 0 where
  pub redo_end : ℕ
  pub over : now.redo_end ≡ Some redo_end
  pub grown : GrowsByRestart all now.log
  pub order : IsInOrder all now.log
  pub found : IsFront all now.durable
  pub lawful : IsLawful b page_tree now.log
  pub pages : (p : ℕ) → (now.pages p).page ≡ page_at b now.log p

-- the newest record of the open structure change stands at this LSN, in front of these
pub record IsNewestAt (lsn : ℕ) (log rest : History) : Type 0 where
  pub newest : Logged
  pub going : open_smo log ≡ newest ∷ rest
  pub here : newest.lsn ≡ lsn

module _ {D : Type 0} (d : Ghosts D) (b : Base) (base : ℕ) (all : History) where
  -- Calls in a row, since the writer stood so: how it stands now, and what a stop since then has left.
  pub record ChangeGoes (s : Writer) (old : D) (t : Writer) (w : PageWriter) (disk : D) : Type 0 where
    pub stands : StandsAs d b base t w disk
    pub taking : IsTakingBack b all t
    pub stops : LeavesOnly d old disk (IsLeftUndoing b base all)
    pub on : IsFront s.log t.log

  -- The newest page is taken back by a record at this LSN, which leads the transaction's undo on to that one.
  pub record TakenBack (s : Writer) (t on : ℕ) (rest : History) (lsn : ℕ) (old : D) (w : PageWriter) (disk : D) : Type 0 where
    pub now : Writer
    pub goes : ChangeGoes s old now w disk
    pub going : open_smo now.log ≡ rest
    pub losers : (m n : LoserMap) → AreLosers m s.log → Updates nat_cmp m n t (Some (record { last = lsn; undo_next = on })) → AreLosers n now.log

  -- what that keeps
  abbrev pub TakeBackKept : Writer → ℕ → ℕ → History → D → PageWriter → D → Result ℕ Fault → Type 0
  TakeBackKept s t on rest old w disk result = RestartSound d b base all (λ lsn. TakenBack s t on rest lsn old w disk) old disk result

  -- The table of the losers says so too.
  pub record PageUndone (s : Writer) (rest : History) (old : D) (w : PageWriter) (losers : LoserMap) (disk : D) : Type 0 where
    pub now : Writer
    pub goes : ChangeGoes s old now w disk
    pub going : open_smo now.log ≡ rest
    pub are : AreLosers losers now.log

  -- what the undo of a page keeps
  abbrev pub PageKept : Writer → History → D → PageWriter → LoserMap → D → Result Unit Fault → Type 0
  PageKept s rest old w losers disk result = RestartSound d b base all (λ u. PageUndone s rest old w losers disk) old disk result

  -- what the undo of all of them keeps
  abbrev pub ChangeKept : Writer → D → PageWriter → LoserMap → D → Result Unit Fault → Type 0
  ChangeKept s old w losers disk result = RestartSound d b base all (λ u. PageUndone s [] old w losers disk) old disk result
