-- How an insert comes to its record at once, with no change under way.
use Rattle.std.specs.Prelude.{◌≡◌, ◌≤◌, ◌⊎◌, ℕ, length, None, Some, Option, Result, IfErr, Bool}
use Rattle.std.specs.FinMap.{get}
use Rattle.im_base_types.specs.declared.fault.Fault.{Fault}
use Rattle.im_base_types.specs.declared.fault.Fault.TheVariants.{Capacity, Failed, Memory}
use Rattle.im_base_types.specs.Keys.{Key}
use Rattle.im_theory_log.specs.Histories.{Base}
use Rattle.im_theory_log.specs.Lawful as lawful
use Rattle.im_theory_log.specs.Transactions.{contents}
use Rattle.im_theory_log.specs.Writer.{Writer}
use Rattle.im_base_disk.specs.declared.disk.Disk.{Ghosts}
use Rattle.im_page_writer.specs.declared.page_writer.PageWriter.{PageWriter}
use Rattle.im_page_writer.specs.Outcome.{AreLoaded, IsSound, Outcome as Ends}
use Rattle.im_tree_search.specs.declared.change_beside.Beside.{Beside}
use Rattle.im_tree_search.specs.Levels.{bodies}
use Rattle.im_smo_log.specs.declared.change.Change.{Change as Structure}
use Rattle.im_smo_log.specs.Changes.{HasRecordOf}
use Rattle.im_smo_split.specs.Kept.{mild_to_split}
use Rattle.im_smo_split.specs.Plan.{IsWithin, Planned}
use Rattle.im_smo_split.specs.Tops.{LacksRoomFor}
use Rattle.im_smo_actions.specs.GoingBeside.{settled_pages}
use Rattle.im_smo_actions.specs.Structure.{IsUnfinished, IsUsedUp, Restructured}
use Rattle.im_engine_access.specs.declared.change_plan.Coming.{Coming}
use Rattle.im_engine_access.specs.declared.lock_answer.LockAnswer.TheVariants.{Granted}
use Rattle.im_engine_access.specs.declared.noted.Noted.{Noted}
use Rattle.im_engine_access.specs.ChangePlans.{IsComing}
use Rattle.im_engine_access.specs.Edits.{Inserted, IsInsert}
use Rattle.im_engine_access.specs.KeyLogs.{LeavesEdit}

module _ {D : Type 0} (d : Ghosts D) (b : Base) (base : ℕ) where
  -- The locks of the insert are granted, and calls that change no page have laid it down: so the key may come.
  pub record MayInsert (s : Writer) (e t last undo_next : ℕ) (key : Key) (dense : Bool) (max : ℕ) (beside : Beside) (coming : Coming) (w : PageWriter) (disk : D) : Type 0 where
    pub start : PageWriter
    pub since : D
    pub unfinished : IsUnfinished d b base s e t last undo_next start since
    pub free : get (contents b s.log) key ≡ None → lawful.IsFree t key s.log
    pub calls : Ends d AreLoaded (mild_to_split (Some max)) start since w disk None
    pub comes : IsComing (settled_pages b s) beside key dense max (contents b s.log) coming

  -- The same of an absent key whose leaf lacks room: no page of this change of the transaction is logged, which is the split of that leaf, and this page is the key's leaf after it.
  pub record MaySplit (s : Writer) (e t last undo_next : ℕ) (key : Key) (dense : Bool) (max : ℕ) (change : Structure) (leaf : ℕ) (w : PageWriter) (disk : D) : Type 0 where
    pub start : PageWriter
    pub since : D
    pub unfinished : IsUnfinished d b base s e t last undo_next start since
    pub owner : (change.transaction ≡ t) × (change.last ≡ last) × (change.undo_next ≡ undo_next)
    pub free : lawful.IsFree t key s.log
    pub absent : get (contents b s.log) key ≡ None
    pub calls : Ends d AreLoaded (mild_to_split (Some max)) start since w disk None
    pub some : 1 ≤ length change.images
    pub planned : Planned dense (settled_pages b s) key (Some max) change.images leaf

  -- A structure change of the transaction and Images joined the log, or Images alone, as the key's leaf wanted it: its record comes next.
  pub record ComesTo (s : Writer) (e t last undo_next : ℕ) (key : Key) (dense : Bool) (max : ℕ) (w : PageWriter) (disk : D) : Type 0 where
    pub since : D
    pub free : lawful.IsFree t key s.log
    pub absent : get (contents b s.log) key ≡ None
    pub made : Restructured d b base s e t last undo_next w disk
    pub some : LacksRoomFor (bodies s) key → HasRecordOf t made.grows.more
    pub only : HasRecordOf t made.grows.more → LacksRoomFor (bodies s) key
    pub within : LacksRoomFor (bodies s) key → IsWithin dense (bodies s) key max
    pub stops : LeavesEdit d b base s t since disk

  -- what logging the key keeps
  pub record PutKept (s : Writer) (e t : ℕ) (key : Key) (rid : ℕ) (dense : Bool) (max : ℕ) (old : D) (w : PageWriter) (disk : D) (result : Result Noted Fault) : Type 0 where
    pub sound : IsSound result (λ noted. Inserted d b base s e t key rid dense max noted w disk)
    pub stops : LeavesEdit d b base s t old disk

  -- And logging what was laid down. It is refused only of an absent key: for page numbers where its leaf lacks room and they are used up, and for memory, or as failed, where the leaf lacks room.
  pub record AtOnceKept (s : Writer) (e t : ℕ) (key : Key) (rid : ℕ) (dense : Bool) (max : ℕ) (old : D) (w : PageWriter) (disk : D) (result : Result (Option Noted) Fault) : Type 0 where
    pub sound : IsSound result (λ noted. IsInsert d b base s e t key rid dense max old w disk (Granted noted))
    pub stops : LeavesEdit d b base s t old disk
    pub absent : IfErr result (λ f. get (contents b s.log) key ≡ None)
    pub used_up : IfErr result (λ f. f ≡ Capacity → LacksRoomFor (bodies s) key × IsUsedUp dense (bodies s) key)
    pub begun : IfErr result (λ f. (f ≡ Memory) ⊎ (f ≡ Failed) → LacksRoomFor (bodies s) key)
