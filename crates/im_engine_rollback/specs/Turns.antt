-- One turn of a rollback: one change more is taken back, and where it was the last one, the transaction ends.
use Rattle.std.specs.Prelude.{◌≡◌, ◌≢◌, ℕ, Bool, true, false, [], ◌∷◌, Some, Result, IfErr}
use Rattle.im_base_types.specs.declared.fault.Fault.{Fault}
use Rattle.im_base_types.specs.declared.fault.Fault.TheVariants.{Capacity, Failed, Memory}
use Rattle.im_theory_log.specs.Histories.{Base, IsFront}
use Rattle.im_theory_log.specs.Transactions.{net}
use Rattle.im_theory_log.specs.Writer.{Writer}
use Rattle.im_base_disk.specs.declared.disk.Disk.{Ghosts}
use Rattle.im_log_record.specs.Entry.{Entry, End, prev_of}
use Rattle.im_log.specs.Whats.{what_of}
use Rattle.im_log.specs.Spelled.{logged_at}
use Rattle.im_page_writer.specs.declared.page_writer.PageWriter.{PageWriter}
use Rattle.im_page_writer.specs.PageWriter.{StandsAs, Evicted}
use Rattle.im_page_writer.specs.Outcome.{IsSound}
use Rattle.im_tree_search.specs.Levels.{bodies}
use Rattle.im_theory_tree.specs.Theory.{page_tree}
use Rattle.im_restart_analysis.specs.Undo.{HasEnded, IsUndoable}
use Rattle.im_restart_undo.specs.Undoing.{HasBegun, IsToUndo, LeavesUndo, TakenBack, UsesUp, WantsRoom}
use Rattle.im_engine_rollback.specs.declared.undone.Undone.{Undone}
use Rattle.im_engine_rollback.specs.declared.undone.Undone.TheVariants.{More, Ended}

module _ {D : Type 0} (d : Ghosts D) (b : Base) (base : ℕ) where
  -- One change was taken back by one compensation: the transaction's records end at this LSN, and its undo goes on at this one.
  pub record Took (s : Writer) (e t last undo_next : ℕ) (old : D) (w : PageWriter) (disk : D) : Type 0 where
    pub entry : Entry
    pub next : IsToUndo d b base s t entry
    pub taken : TakenBack d b base s e t entry last old w disk
    pub leads : undo_next ≡ prev_of entry

  -- What the transaction has to undo next finds its leaf without room.
  pub record LacksRoomBack (s : Writer) (t : ℕ) : Type 0 where
    pub entry : Entry
    pub next : IsToUndo d b base s t entry
    pub lacks : WantsRoom (bodies s) (what_of entry)

  -- and page numbers or levels are used up
  pub record LacksWayBack (s : Writer) (t : ℕ) : Type 0 where
    pub entry : Entry
    pub next : IsToUndo d b base s t entry
    pub used_up : UsesUp (bodies s) (what_of entry)

  -- what that keeps; a want of memory leaves all as it was, or is `Failed` after a record of the transaction; `Memory` comes only where a key that is put back finds its leaf without room, and `Capacity` only where page numbers or levels are used up too
  pub record TakeKept (s : Writer) (e t : ℕ) (old : D) (w : PageWriter) (disk : D) (result : Result (ℕ × ℕ) Fault) : Type 0 where
    pub sound : IsSound result (λ x. Took s e t x.0 x.1 old w disk)
    pub stops : LeavesUndo d b base s t old disk
    pub again : IfErr result (λ e. e ≡ Memory → Evicted d b base s old w disk)
    pub short : IfErr result (λ e. e ≡ Memory → LacksRoomBack s t)
    pub used_up : IfErr result (λ e. e ≡ Capacity → LacksWayBack s t)
    pub begun : IfErr result (λ e. e ≡ Failed → HasBegun d b base s t w disk)

  -- The transaction has its End, and is unfinished no more.
  pub record EndedNow (s : Writer) (e t last : ℕ) (w : PageWriter) (disk : D) : Type 0 where
    pub now : Writer
    pub lsn : ℕ
    pub log : now.log ≡ logged_at lsn (End t last) ∷ s.log
    pub ended : HasEnded t s.log (logged_at lsn (End t last))
    pub stands : StandsAs d b base now w disk
    pub over : now.redo_end ≡ Some e
    pub can : IsUndoable b page_tree now.log
    pub durable : IsFront s.durable now.durable

  -- ---- a turn

  -- After a change that was taken back: of a transaction that ends with its last one others are left, or it has ended; one that does not end so goes on, whatever is left.
  abbrev pub WentOn : (ends : Bool) (s : Writer) (e t last undo_next : ℕ) (w : PageWriter) (disk : D) → Undone → Type 0
  WentOn true s e t last undo_next w disk (More l n) = (l ≡ last) × (n ≡ undo_next) × (net t s.log ≢ []) × StandsAs d b base s w disk
  WentOn true s e t last undo_next w disk Ended = (net t s.log ≡ []) × EndedNow s e t last w disk
  WentOn false s e t last undo_next w disk (More l n) = (l ≡ last) × (n ≡ undo_next) × StandsAs d b base s w disk
  WentOn false s e t last undo_next w disk Ended = ⊥

  pub record EndIfUndoneKept (ends : Bool) (s : Writer) (e t last undo_next : ℕ) (old : D) (w : PageWriter) (disk : D) (result : Result Undone Fault) : Type 0 where
    pub sound : IsSound result (λ undone. WentOn ends s e t last undo_next w disk undone)
    pub stops : LeavesUndo d b base s t old disk

  -- One change was taken back, and others are left.
  pub record HasMore (s : Writer) (e t last undo_next : ℕ) (old : D) (w : PageWriter) (disk : D) : Type 0 where
    pub took : Took s e t last undo_next old w disk
    pub left : net t took.taken.now.log ≢ []

  -- The last change was taken back, and then the transaction ended.
  pub record HasEndedNow (s : Writer) (e t : ℕ) (old : D) (w : PageWriter) (disk : D) : Type 0 where
    pub last : ℕ
    pub undo_next : ℕ
    pub between : PageWriter
    pub mid : D
    pub took : Took s e t last undo_next old between mid
    pub none : net t took.taken.now.log ≡ []
    pub end : EndedNow took.taken.now e t last w disk

  -- of one that does not end with its last change, one change was taken back, and no other record joined the log
  abbrev pub Turned : (ends : Bool) (s : Writer) (e t : ℕ) (old : D) (w : PageWriter) (disk : D) → Undone → Type 0
  Turned true s e t old w disk (More last undo_next) = HasMore s e t last undo_next old w disk
  Turned true s e t old w disk Ended = HasEndedNow s e t old w disk
  Turned false s e t old w disk (More last undo_next) = Took s e t last undo_next old w disk
  Turned false s e t old w disk Ended = ⊥

  -- what a turn keeps; refusals as those of one change
  pub record TurnKept (ends : Bool) (s : Writer) (e t : ℕ) (old : D) (w : PageWriter) (disk : D) (result : Result Undone Fault) : Type 0 where
    pub sound : IsSound result (λ undone. Turned ends s e t old w disk undone)
    pub stops : LeavesUndo d b base s t old disk
    pub again : IfErr result (λ e. e ≡ Memory → Evicted d b base s old w disk)
    pub short : IfErr result (λ e. e ≡ Memory → LacksRoomBack s t)
    pub used_up : IfErr result (λ e. e ≡ Capacity → LacksWayBack s t)
    pub begun : IfErr result (λ e. e ≡ Failed → HasBegun d b base s t w disk)
