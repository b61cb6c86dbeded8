-- One step of a rollback in a store whose structure changes are made page by page.
use Rattle.std.specs.Prelude.{◌≡◌, ◌⊎◌, ℕ, zero, suc, Bool, true, [], ◌∷◌, Some, Result, IfErr}
use Rattle.im_base_types.specs.declared.fault.Fault.{Fault}
use Rattle.im_base_types.specs.declared.fault.Fault.TheVariants.{Capacity, Failed, Memory}
use Rattle.im_base_types.specs.Pages.{Body}
use Rattle.im_theory_log.specs.Copies.{GrowsByImages}
use Rattle.im_theory_log.specs.Histories.{Base, History, IsFront}
use Rattle.im_theory_log.specs.Structure.{settled}
use Rattle.im_theory_log.specs.Writer.{Writer}
use Rattle.im_base_disk.specs.declared.disk.Disk.{Ghosts}
use Rattle.im_log_record.specs.Entry.{Entry, prev_of}
use Rattle.im_log.specs.Whats.{what_of}
use Rattle.im_page_writer.specs.declared.page_writer.PageWriter.{PageWriter}
use Rattle.im_page_writer.specs.PageWriter.{Evicted, StandsAs}
use Rattle.im_page_writer.specs.Outcome.{IsSound}
use Rattle.im_tree_search.specs.declared.change_beside.Beside.{Beside}
use Rattle.im_tree_search.specs.declared.sight.Sight.{Sight}
use Rattle.im_tree_search.specs.Sights.{IfSeen}
use Rattle.im_smo_log.specs.Logged.{smo_at}
use Rattle.im_smo_log.specs.Stepping.{Goes}
use Rattle.im_smo_actions.specs.declared.begun_change.BegunChange.{BegunChange}
use Rattle.im_restart_undo.specs.declared.back.Back.TheVariants.{Plain}
use Rattle.im_restart_undo.specs.GoingBeside.{TakenBeside}
use Rattle.im_restart_undo.specs.Planning.{NeedsChange}
use Rattle.im_restart_undo.specs.Undoing.{LeavesUndo}
use Rattle.im_engine_rollback.specs.declared.undone_in_steps.UndoneInSteps.{UndoneInSteps}
use Rattle.im_engine_rollback.specs.declared.undone_in_steps.UndoneInSteps.TheVariants.{Made, Splitting, Dropping}
use Rattle.im_engine_rollback.specs.SplitsBack.{IsSplitBack}
use Rattle.im_engine_rollback.specs.TurnsBeside.{HasNoWayBack, IsHiddenBack, IsSeenNext, MadeBeside, NeedsChangeBack}

-- The change is this transaction's, after which its undo goes on there, and so many of its pages are logged.
pub record IsBegunBy (t undo_next made : ℕ) (begun : BegunChange) : Type 0 where
  pub owner : begun.change.transaction ≡ t
  pub leads : begun.change.undo_next ≡ undo_next
  pub done : begun.change.done ≡ made

module _ {D : Type 0} (d : Ghosts D) (b : Base) (base : ℕ) where
  -- After Images the first page of a split joined the log: the change is under way, and goes on to be for the record that is undone next.
  pub record FirstLogged (s : Writer) (e t last undo_next : ℕ) (begun : BegunChange) (w : PageWriter) (disk : D) : Type 0 where
    pub now : Writer
    pub stands : StandsAs d b base now w disk
    pub over : now.redo_end ≡ Some e
    pub durable : IsFront s.durable now.durable
    pub before : History
    pub images : GrowsByImages b s.log before
    pub page : ℕ
    pub was : Body
    pub new : Body
    pub log : now.log ≡ smo_at begun.change.last t last page was new ∷ before
    -- others see the mark of a structure change under way
    pub marked : new.marked ≡ true
    pub goes : Goes b begun.change now.log
    pub by : IsBegunBy t undo_next (suc zero) begun
    pub back : IsSplitBack b undo_next begun.change.images now.log
    pub count : begun.count ≡ (settled b now.log 0).leftmost

  -- what that keeps
  pub record SplitBegunKept (s : Writer) (e t last undo_next : ℕ) (old : D) (w : PageWriter) (disk : D) (result : Result BegunChange Fault) : Type 0 where
    pub sound : IsSound result (λ begun. FirstLogged s e t last undo_next begun w disk)
    pub stops : LeavesUndo d b base s t old disk

  -- The split of the key's leaf is needed, beside none, and its first page is logged.
  pub record IsSplitting (s : Writer) (e t last undo_next : ℕ) (beside : Beside) (begun : BegunChange) (w : PageWriter) (disk : D) : Type 0 where
    pub entry : Entry
    pub next : IsSeenNext d b base s t beside entry
    pub needs : NeedsChange (settled b s.log) (what_of entry)
    pub alone : beside.pages.now ≡ []
    pub first : FirstLogged s e t last undo_next begun w disk

  -- The change is taken back by its compensation, after which the transaction's records end and its undo goes on as the change that takes the leaf out of the tree says, beside none.
  pub record IsDropping (s : Writer) (e t : ℕ) (beside : Beside) (begun : BegunChange) (old : D) (w : PageWriter) (disk : D) : Type 0 where
    pub entry : Entry
    pub next : IsSeenNext d b base s t beside entry
    pub needs : NeedsChange (settled b s.log) (what_of entry)
    pub alone : beside.pages.now ≡ []
    pub page : ℕ
    pub taken : TakenBeside d b base s e t entry (Plain page) begun.change.last old w disk
    pub goes : Goes b begun.change taken.now.log
    pub by : IsBegunBy t (prev_of entry) zero begun
    pub count : begun.count ≡ (settled b taken.now.log 0).leftmost

  abbrev pub SteppedBack : (ends : Bool) (s : Writer) (e t last undo_next : ℕ) (beside : Beside) (old : D) (w : PageWriter) (disk : D) → UndoneInSteps → Type 0
  SteppedBack ends s e t last undo_next beside old w disk (Made undone) = MadeBeside d b base ends s e t beside old w disk undone
  SteppedBack ends s e t last undo_next beside old w disk (Splitting begun) = IsSplitting s e t last undo_next beside begun w disk
  SteppedBack ends s e t last undo_next beside old w disk (Dropping begun) = IsDropping s e t beside begun old w disk

  -- What such a step keeps, refused as `undo_beside` is.
  pub record InStepsKept (ends : Bool) (s : Writer) (e t last undo_next : ℕ) (beside : Beside) (old : D) (w : PageWriter) (disk : D) (result : Result (Sight UndoneInSteps) Fault) : Type 0 where
    pub sound : IsSound result (IfSeen (SteppedBack ends s e t last undo_next beside old w disk) (IsHiddenBack d b base s t beside old w disk))
    pub stops : LeavesUndo d b base s t old disk
    pub again : IfErr result (λ e. e ≡ Memory → Evicted d b base s old w disk)
    pub short : IfErr result (λ e. e ≡ Memory → NeedsChangeBack d b base s t)
    pub used_up : IfErr result (λ e. e ≡ Capacity → HasNoWayBack d b base s t)
    pub alone : IfErr result (λ e. (e ≡ Memory) ⊎ (e ≡ Capacity) → beside.pages.now ≡ [])
    pub early : IfErr result (λ e. e ≡ Failed → ⊥)
