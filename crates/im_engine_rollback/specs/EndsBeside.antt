-- The end of a rollback, beside a structure change of another transaction too.
use Rattle.std.specs.Prelude.{◌≡◌, ◌≢◌, ℕ, Bool, true, false, [], ◌∷◌, Some, Result}
use Rattle.im_base_types.specs.declared.fault.Fault.{Fault}
use Rattle.im_theory_log.specs.Histories.{Base, IsFront}
use Rattle.im_theory_log.specs.Lawful.{IsLawful}
use Rattle.im_theory_log.specs.Structure.{open_smo}
use Rattle.im_theory_log.specs.Transactions.{net}
use Rattle.im_theory_log.specs.Writer.{Writer}
use Rattle.im_base_disk.specs.declared.disk.Disk.{Ghosts}
use Rattle.im_log_record.specs.Entry.{End}
use Rattle.im_log.specs.Spelled.{logged_at}
use Rattle.im_page_writer.specs.declared.page_writer.PageWriter.{PageWriter}
use Rattle.im_page_writer.specs.PageWriter.{StandsAs}
use Rattle.im_page_writer.specs.Outcome.{IsSound}
use Rattle.im_theory_tree.specs.Theory.{page_tree}
use Rattle.im_restart_analysis.specs.Undo.{HasEnded}
use Rattle.im_restart_undo.specs.Undoing.{LeavesUndo}
use Rattle.im_engine_rollback.specs.declared.undone.Undone.{Undone}
use Rattle.im_engine_rollback.specs.declared.undone.Undone.TheVariants.{More, Ended}

module _ {D : Type 0} (d : Ghosts D) (b : Base) (base : ℕ) where
  -- The transaction has its End, and is unfinished no more; the open structure change is as it was.
  pub record EndedBeside (s : Writer) (e t last : ℕ) (w : PageWriter) (disk : D) : Type 0 where
    pub now : Writer
    pub lsn : ℕ
    pub log : now.log ≡ logged_at lsn (End t last) ∷ s.log
    pub ended : HasEnded t s.log (logged_at lsn (End t last))
    pub stands : StandsAs d b base now w disk
    pub over : now.redo_end ≡ Some e
    pub lawful : IsLawful b page_tree now.log
    pub going_on : open_smo now.log ≡ open_smo s.log
    pub durable : IsFront s.durable now.durable

  -- what an End keeps
  pub record EndBesideKept (s : Writer) (e t last : ℕ) (old : D) (w : PageWriter) (disk : D) (result : Result Unit Fault) : Type 0 where
    pub sound : IsSound result (λ _. EndedBeside s e t last w disk)
    pub stops : LeavesUndo d b base s t old disk

  -- After a change that was taken back: of a transaction that ends with its last one others are left, or it has ended; one that does not end so goes on, whatever is left.
  abbrev pub WentOnBeside : (ends : Bool) (s : Writer) (e t last undo_next : ℕ) (w : PageWriter) (disk : D) → Undone → Type 0
  WentOnBeside true s e t last undo_next w disk (More l n) = (l ≡ last) × (n ≡ undo_next) × (net t s.log ≢ []) × StandsAs d b base s w disk
  WentOnBeside true s e t last undo_next w disk Ended = (net t s.log ≡ []) × EndedBeside s e t last w disk
  WentOnBeside false s e t last undo_next w disk (More l n) = (l ≡ last) × (n ≡ undo_next) × StandsAs d b base s w disk
  WentOnBeside false s e t last undo_next w disk Ended = ⊥

  pub record EndIfUndoneBesideKept (ends : Bool) (s : Writer) (e t last undo_next : ℕ) (old : D) (w : PageWriter) (disk : D) (result : Result Undone Fault) : Type 0 where
    pub sound : IsSound result (λ undone. WentOnBeside ends s e t last undo_next w disk undone)
    pub stops : LeavesUndo d b base s t old disk
