-- What an insert or a delete of a transaction among many keeps.
use Rattle.std.specs.Prelude.{◌≡◌, ◌≢◌, ◌⊎◌, ℕ, [], ◌∷◌, length, Option, None, Some, Result, IfOk, IfErr, Bool}
use Rattle.std.specs.FinMap.{get}
use Rattle.im_base_types.specs.declared.fault.Fault.{Fault}
use Rattle.im_base_types.specs.declared.fault.Fault.TheVariants.{Capacity, Failed, PagesFull}
use Rattle.im_base_types.specs.Keys.{Key}
use Rattle.im_base_types.specs.Changes.{Change, key_of}
use Rattle.im_base_types.specs.Answers.{Access, Insert, Delete, changes}
use Rattle.im_base_types.specs.Records.{InsertKey, DeleteKey}
use Rattle.im_theory_log.specs.Histories.{Base, History, IsFront}
use Rattle.im_theory_log.specs.Copies.{GrowsByImages}
use Rattle.im_theory_log.specs.Lawful as lawful
use Rattle.im_theory_log.specs.LogLaws as logs
use Rattle.im_theory_log.specs.Structure.{settled}
use Rattle.im_theory_log.specs.Transactions.{contents}
use Rattle.im_theory_log.specs.Writer.{Writer}
use Rattle.im_base_disk.specs.declared.disk.Disk.{Ghosts}
use Rattle.im_page_writer.specs.declared.page_writer.PageWriter.{PageWriter}
use Rattle.im_page_writer.specs.Outcome.{IsSound}
use Rattle.im_page_writer.specs.PageWriter.{Evicted}
use Rattle.im_theory_tree.specs.Levels.{Pages}
use Rattle.im_theory_tree.specs.Search.{IsOnWay}
use Rattle.im_tree_search.specs.Levels.{bodies}
use Rattle.im_smo_log.specs.Changes.{GrowsByChange, HasRecordOf}
use Rattle.im_smo_split.specs.Tops.{LacksRoomFor}
use Rattle.im_smo_split.specs.Plan.{IsOver, IsWithin}
use Rattle.im_smo_actions.specs.DropPlan.{IsSpare}
use Rattle.im_smo_actions.specs.Structure.{IsUnfinished, IsUsedUp}
use Rattle.im_theory_machine.specs.Locks.{IsFree}
use Rattle.im_theory_machine.specs.Rows.{asked}
use Rattle.im_theory_machine.specs.Table.{Table, Decides, locks_of}
use Rattle.im_theory_machine.specs.declared.verdict.Verdict.TheVariants.{Granted as GrantedAll}
use Rattle.im_theory_steps.specs.Steps.{key_record}
use Rattle.im_engine_access.specs.declared.lock_answer.LockAnswer.{LockAnswer}
use Rattle.im_engine_access.specs.declared.lock_answer.LockAnswer.TheVariants.{Granted, Wait, Die}
use Rattle.im_engine_access.specs.declared.noted.Noted.{Noted}
use Rattle.im_engine_access.specs.LockAnswers.{verdict_of}
use Rattle.im_engine_access.specs.KeyLogs.{LeavesEdit}

-- ---- the leaf of a key that goes

-- It is the root, or has another number of entries than one.
pub record HasMore (pages : Pages) (key : Key) : Type 0 where
  pub page : ℕ
  pub way : IsOnWay pages 0 key page
  pub more : (page ≡ 1) ⊎ (length (pages page).entries ≢ 1)

-- It is not the root, and has one entry.
pub record HasOne (pages : Pages) (key : Key) : Type 0 where
  pub page : ℕ
  pub way : IsOnWay pages 0 key page
  pub under : page ≢ 1
  pub one : length (pages page).entries ≡ 1

-- ---- the leaf of a key that comes

-- Where it lacks room, its split takes no page over the limit, or page numbers or levels are used up.
abbrev pub IsLimited : Bool → Pages → Key → ℕ → Type 0
IsLimited dense pages key max = LacksRoomFor pages key → IsWithin dense pages key max ⊎ IsUsedUp dense pages key

module _ {D : Type 0} (d : Ghosts D) (b : Base) (base : ℕ) where
  -- The transaction may log a change: it is not finished; and where it is granted the locks of this access, no other net has the key.
  pub record MayEdit (s : Writer) (e t last undo_next : ℕ) (a : Access) (held : Table) (w : PageWriter) (disk : D) : Type 0 where
    pub unfinished : IsUnfinished d b base s e t last undo_next w disk
    pub free : (c : Change) → IsFree (locks_of held) t (asked a (contents b s.log)) → changes a (contents b s.log) ≡ c ∷ [] → lawful.IsFree t (key_of c) s.log

  -- ---- a key that comes

  -- Its record joined the log, after Images and, just where its leaf lacked room, a structure change of the transaction, which then kept the limit of pages.
  pub record Inserted (s : Writer) (e t : ℕ) (key : Key) (rid : ℕ) (dense : Bool) (max : ℕ) (noted : Noted) (w : PageWriter) (disk : D) : Type 0 where
    pub absent : get (contents b s.log) key ≡ None
    pub now : Writer
    pub stands : IsUnfinished d b base now e t noted.last noted.undo_next w disk
    pub same : noted.undo_next ≡ noted.last
    pub point : now.point ≡ s.point
    pub durable : IsFront s.durable now.durable
    pub between : History
    pub change : GrowsByChange t s.log between
    pub newest : ℕ
    pub page : ℕ
    pub is : now.log ≡ key_record t newest noted.last page (InsertKey key rid) ∷ between
    pub some : LacksRoomFor (bodies s) key → HasRecordOf t change.more
    pub only : HasRecordOf t change.more → LacksRoomFor (bodies s) key
    pub within : LacksRoomFor (bodies s) key → IsWithin dense (bodies s) key max

  -- by the outcome: nothing is logged of a key that is there, nor where a lock is in the way
  abbrev pub IsInsert : Writer → ℕ → ℕ → Key → ℕ → Bool → ℕ → D → PageWriter → D → LockAnswer (Option Noted) → Type 0
  IsInsert s e t key rid dense max old w disk (Granted None) = (i : ℕ) × (get (contents b s.log) key ≡ Some i) × Evicted d b base s old w disk
  IsInsert s e t key rid dense max old w disk (Granted (Some noted)) = Inserted s e t key rid dense max noted w disk
  IsInsert s e t key rid dense max old w disk (Wait holder) = Evicted d b base s old w disk
  IsInsert s e t key rid dense max old w disk Die = Evicted d b base s old w disk

  -- What an insert keeps. Pages are wanted before a lock is asked, page numbers after the grant, both only where the key is absent and its leaf lacks room for it: so an absent key has an answer, a lock that stands in the way included, only within the limit of pages. `Failed` comes after the grant of
  -- the locks of a key that is absent, where its leaf lacks room or nothing but Images joined the log.
  pub record InsertKept (s : Writer) (e t : ℕ) (key : Key) (rid : ℕ) (dense : Bool) (max : ℕ) (held new : Table) (old : D) (w : PageWriter) (disk : D) (result : Result (LockAnswer (Option Noted)) Fault) : Type 0 where
    pub sound : IsSound result (λ outcome. Decides held t (asked (Insert key rid) (contents b s.log)) (verdict_of outcome) new × IsInsert s e t key rid dense max old w disk outcome)
    pub stops : LeavesEdit d b base s t old disk
    pub full : IfErr result (λ e. e ≡ PagesFull → (get (contents b s.log) key ≡ None) × LacksRoomFor (bodies s) key × IsOver dense (bodies s) key max)
    pub used_up : IfErr result (λ e. e ≡ Capacity → (get (contents b s.log) key ≡ None) × LacksRoomFor (bodies s) key × IsUsedUp dense (bodies s) key × Decides held t (asked (Insert key rid) (contents b s.log)) GrantedAll new)
    pub limited : IfOk result (λ _. get (contents b s.log) key ≡ None → IsLimited dense (bodies s) key max)
    pub begun : IfErr result (λ e. e ≡ Failed → (get (contents b s.log) key ≡ None) × Decides held t (asked (Insert key rid) (contents b s.log)) GrantedAll new × (LacksRoomFor (bodies s) key ⊎ Evicted d b base s old w disk))

  -- ---- a key that goes

  -- Its record joined the log, after Images; after it Images and a structure change of the transaction, where that took the key's leaf out of the tree, which it had left empty. No leaf
  -- stays that it left empty.
  pub record Deleted (s : Writer) (e t last : ℕ) (key : Key) (noted : Noted) (w : PageWriter) (disk : D) : Type 0 where
    pub rid : ℕ
    pub there : get (contents b s.log) key ≡ Some rid
    pub now : Writer
    pub stands : IsUnfinished d b base now e t noted.last noted.undo_next w disk
    pub point : now.point ≡ s.point
    pub durable : IsFront s.durable now.durable
    pub before : History
    pub images : GrowsByImages b s.log before
    pub page : ℕ
    pub change : GrowsByChange t (key_record t last noted.undo_next page (DeleteKey key rid) ∷ before) now.log
    pub only : HasRecordOf t change.more → IsSpare (logs.bodies b (key_record t last noted.undo_next page (DeleteKey key rid) ∷ before)) key
    pub ended : HasMore (settled b s.log) key ⊎ HasRecordOf t change.more

  abbrev pub IsDelete : Writer → ℕ → ℕ → ℕ → Key → D → PageWriter → D → LockAnswer (Option Noted) → Type 0
  IsDelete s e t last key old w disk (Granted None) = (get (contents b s.log) key ≡ None) × Evicted d b base s old w disk
  IsDelete s e t last key old w disk (Granted (Some noted)) = Deleted s e t last key noted w disk
  IsDelete s e t last key old w disk (Wait holder) = Evicted d b base s old w disk
  IsDelete s e t last key old w disk Die = Evicted d b base s old w disk

  -- What a delete keeps. `Failed` comes after the grant of the locks of a key that is there, where it was its leaf's only one or nothing but Images joined the log.
  pub record DeleteKept (s : Writer) (e t last : ℕ) (key : Key) (held new : Table) (old : D) (w : PageWriter) (disk : D) (result : Result (LockAnswer (Option Noted)) Fault) : Type 0 where
    pub sound : IsSound result (λ outcome. Decides held t (asked (Delete key) (contents b s.log)) (verdict_of outcome) new × IsDelete s e t last key old w disk outcome)
    pub stops : LeavesEdit d b base s t old disk
    pub begun : IfErr result (λ e. e ≡ Failed → (get (contents b s.log) key ≢ None) × Decides held t (asked (Delete key) (contents b s.log)) GrantedAll new × (HasOne (bodies s) key ⊎ Evicted d b base s old w disk))
