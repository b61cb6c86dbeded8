-- What an insert or a delete keeps beside a structure change of another, and where it begins one of its own that goes on over several steps.
use Rattle.std.specs.Prelude.{◌≡◌, ◌≢◌, ℕ, Bool, true, false, List, [], ◌∷◌, None, Some, Result, IfOk, IfErr}
use Rattle.std.specs.FinMap.{get}
use Rattle.im_base_types.specs.declared.fault.Fault.{Fault}
use Rattle.im_base_types.specs.declared.fault.Fault.TheVariants.{Capacity, Failed, PagesFull}
use Rattle.im_base_types.specs.Keys.{Key}
use Rattle.im_base_types.specs.Pages.{Body, Page}
use Rattle.im_base_types.specs.Changes.{Change, key_of}
use Rattle.im_base_types.specs.Answers.{Access, Insert, Delete, changes}
use Rattle.im_base_types.specs.Records.{InsertKey, DeleteKey}
use Rattle.im_theory_log.specs.Copies.{GrowsByImages}
use Rattle.im_theory_log.specs.Histories.{Base, History, IsFront}
use Rattle.im_theory_log.specs.Lawful as lawful
use Rattle.im_theory_log.specs.Structure.{open_smo, settled}
use Rattle.im_theory_log.specs.Transactions.{contents}
use Rattle.im_theory_log.specs.Writer.{Writer}
use Rattle.im_base_disk.specs.declared.disk.Disk.{Ghosts}
use Rattle.im_page_writer.specs.declared.page_writer.PageWriter.{PageWriter}
use Rattle.im_page_writer.specs.Outcome.{mild, AreLoaded, IsSound, Outcome as Ends}
use Rattle.im_page_writer.specs.PageWriter.{Evicted, StandsAs}
use Rattle.im_page_flush.specs.Writing.{LeavesGrown}
use Rattle.im_theory_machine.specs.Changing.{asked_begun}
use Rattle.im_theory_machine.specs.Locks.{IsFree}
use Rattle.im_theory_machine.specs.Rows.{asked}
use Rattle.im_theory_machine.specs.Table.{Table, Decides, locks_of}
use Rattle.im_theory_machine.specs.declared.verdict.Verdict.TheVariants.{Granted as GrantedAll, Wait as MustWait, Die as MustDie}
use Rattle.im_theory_page.specs.Split.{HasRoom}
use Rattle.im_theory_steps.specs.Steps.{key_record}
use Rattle.im_theory_tree.specs.Search.{IsOnWay}
use Rattle.im_tree_search.specs.declared.change_beside.Beside.{Beside}
use Rattle.im_tree_search.specs.declared.sight.Sight.{Sight}
use Rattle.im_tree_search.specs.declared.sight.Sight.TheVariants.{Seen, Hidden}
use Rattle.im_tree_search.specs.Sights.{IfSeen}
use Rattle.im_smo_pages.specs.Images.{Numbered, image_of, held}
use Rattle.im_smo_log.specs.declared.change.Change.{Change as Structure}
use Rattle.im_smo_log.specs.Logged.{smo_at, dummy_at}
use Rattle.im_smo_log.specs.Stepping.{Goes, Stepped}
use Rattle.im_smo_split.specs.Kept.{mild_to_split}
use Rattle.im_smo_split.specs.Plan.{IsOver, IsWithin}
use Rattle.im_smo_split.specs.Tops.{HasRoomFor, LacksRoomFor}
use Rattle.im_smo_actions.specs.declared.begun_change.BegunChange.{BegunChange}
use Rattle.im_smo_actions.specs.declared.planned_change.PlannedChange.{PlannedChange}
use Rattle.im_smo_actions.specs.GoingBeside.{is_planned, settled_pages, IsToldOf}
use Rattle.im_smo_actions.specs.Structure.{IsUnfinished, IsUsedUp}
use Rattle.im_engine_access.specs.declared.begun.Inserting.{Inserting}
use Rattle.im_engine_access.specs.declared.begun.Inserting.TheVariants.{There, Put, Split}
use Rattle.im_engine_access.specs.declared.begun.Deleting.{Deleting}
use Rattle.im_engine_access.specs.declared.begun.Deleting.TheVariants.{Gone, Taken, Dropping}
use Rattle.im_engine_access.specs.declared.change_plan.Coming.{Coming}
use Rattle.im_engine_access.specs.declared.change_plan.Coming.TheVariants.{Fits, Splits, UsedUp}
use Rattle.im_engine_access.specs.declared.change_plan.Leaving.{Leaving}
use Rattle.im_engine_access.specs.declared.lock_answer.LockAnswer.{LockAnswer}
use Rattle.im_engine_access.specs.declared.lock_answer.LockAnswer.TheVariants.{Granted, Wait, Die}
use Rattle.im_engine_access.specs.Barred.{Bars, IsBarredOff, TreeCause}
use Rattle.im_engine_access.specs.ChangePlans.{begins, IsComing, IsLeaving}
use Rattle.im_engine_access.specs.Edits.{HasMore, HasOne, IsLimited}
use Rattle.im_engine_access.specs.KeyLogs.{IsGoingOn, KeyLogged, LeavesEdit}

-- After the change the key's leaf is this page, which is an image of it with room for the key.
pub record KeyGoesTo (b : Base) (log : History) (images : List Numbered) (key : Key) (leaf : ℕ) : Type 0 where
  pub way : IsOnWay (held (settled b log) images) 0 key leaf
  pub image : Page
  pub is : image_of images leaf ≡ Some image
  pub room : HasRoom true image.body.entries (key, 0)

-- whether a change has begun
abbrev pub has_begun : Inserting → Bool
has_begun There = false
has_begun (Put lsn) = false
has_begun (Split begun leaf) = true

-- the locks that an insert has then: the next name until the change ends, where one began
abbrev pub IsAskedFor : Base → Writer → ℕ → Key → ℕ → Table → Table → Inserting → Type 0
IsAskedFor b s t key rid table new There = Decides table t (asked (Insert key rid) (contents b s.log)) GrantedAll new
IsAskedFor b s t key rid table new (Put lsn) = Decides table t (asked (Insert key rid) (contents b s.log)) GrantedAll new
IsAskedFor b s t key rid table new (Split begun leaf) = Decides table t (asked_begun key (contents b s.log)) GrantedAll new

module _ {D : Type 0} (d : Ghosts D) (b : Base) (base : ℕ) where
  -- The transaction may log a change: it is not finished; what it is told of a change beside is what the log has; and where it is granted the locks of this access, no other net has the key.
  pub record MayEditBeside (s : Writer) (e t last undo_next : ℕ) (a : Access) (beside : Beside) (table : Table) (w : PageWriter) (disk : D) : Type 0 where
    pub going : IsGoingOn d b base s e t last undo_next w disk
    pub told : IsToldOf b beside s.log
    pub free : (c : Change) → IsFree (locks_of table) t (asked a (contents b s.log)) → changes a (contents b s.log) ≡ c ∷ [] → lawful.IsFree t (key_of c) s.log

  -- ---- a key that comes

  -- Its record joined the log, after Images, on its leaf, which had room and is none of the pages of the change beside.
  pub record PutBeside (s : Writer) (e t last : ℕ) (key : Key) (rid : ℕ) (beside : Beside) (lsn : ℕ) (w : PageWriter) (disk : D) : Type 0 where
    pub absent : get (contents b s.log) key ≡ None
    pub page : ℕ
    pub apart : is_planned beside page ≡ false
    pub room : HasRoomFor (settled b s.log) key
    pub logged : KeyLogged d b base s e t last page (InsertKey key rid) lsn w disk

  -- A change of the transaction began, with none under way, since the key's leaf lacked room: its first page joined the log, after Images; the key goes into this leaf after it. It takes no page over the limit.
  pub record InsertBegun (s : Writer) (e t last undo_next : ℕ) (key : Key) (dense : Bool) (max : ℕ) (beside : Beside) (begun : BegunChange) (leaf : ℕ) (w : PageWriter) (disk : D) : Type 0 where
    pub absent : get (contents b s.log) key ≡ None
    pub alone : beside.pages.now ≡ []
    pub closed : open_smo s.log ≡ []
    pub lacks : LacksRoomFor (settled b s.log) key
    pub within : IsWithin dense (settled b s.log) key max
    pub now : Writer
    pub stands : StandsAs d b base now w disk
    pub over : now.redo_end ≡ Some e
    pub point : now.point ≡ s.point
    pub durable : IsFront s.durable now.durable
    pub before : History
    pub images : GrowsByImages b s.log before
    pub page : ℕ
    pub was : Body
    pub made : Body
    -- others see the mark of a structure change under way
    pub marked : made.marked ≡ true
    pub is : now.log ≡ smo_at begun.change.last t last page was made ∷ before
    pub owner : begun.change.transaction ≡ t
    pub leads : begun.change.undo_next ≡ undo_next
    pub one : begun.change.done ≡ 1
    pub goes : Goes b begun.change now.log
    pub count : begun.count ≡ (settled b now.log 0).leftmost
    pub to : KeyGoesTo b now.log begun.change.images key leaf

  -- by what was granted
  abbrev pub IsInserting : Writer → ℕ → ℕ → ℕ → ℕ → Key → ℕ → Bool → ℕ → Beside → D → PageWriter → D → Inserting → Type 0
  IsInserting s e t last undo_next key rid dense max beside old w disk There = (i : ℕ) × (get (contents b s.log) key ≡ Some i) × Evicted d b base s old w disk
  IsInserting s e t last undo_next key rid dense max beside old w disk (Put lsn) = PutBeside s e t last key rid beside lsn w disk
  IsInserting s e t last undo_next key rid dense max beside old w disk (Split begun leaf) = InsertBegun s e t last undo_next key dense max beside begun leaf w disk

  -- by the answer; where it is hidden no lock was asked
  abbrev pub IsInsertBeside : Writer → ℕ → ℕ → ℕ → ℕ → Key → ℕ → Bool → ℕ → Beside → Table → Table → D → PageWriter → D → Sight (LockAnswer Inserting) → Type 0
  IsInsertBeside s e t last undo_next key rid dense max beside table new old w disk (Seen (Granted x)) = IsAskedFor b s t key rid table new x × IsInserting s e t last undo_next key rid dense max beside old w disk x
  IsInsertBeside s e t last undo_next key rid dense max beside table new old w disk (Seen (Wait holder)) = Decides table t (asked (Insert key rid) (contents b s.log)) (MustWait holder) new × Evicted d b base s old w disk
  IsInsertBeside s e t last undo_next key rid dense max beside table new old w disk (Seen Die) = Decides table t (asked (Insert key rid) (contents b s.log)) MustDie new × Evicted d b base s old w disk
  IsInsertBeside s e t last undo_next key rid dense max beside table new old w disk Hidden = TreeCause (settled b s.log) beside (Insert key rid) (contents b s.log) × (new ≡ table) × Evicted d b base s old w disk

  -- What an insert keeps. Pages are wanted before a lock is asked, page numbers after the grant, both only where the key is absent and its leaf lacks room for it. `Failed` comes after the grant, in front of the first page of the change that it begins. A change beside that bars it is told before anything is locked.
  pub record InsertBesideKept (s : Writer) (e t last undo_next : ℕ) (key : Key) (rid : ℕ) (dense : Bool) (max : ℕ) (beside : Beside) (table new : Table) (old : D) (w : PageWriter) (disk : D) (result : Result (Sight (LockAnswer Inserting)) Fault) : Type 0 where
    pub sound : IsSound result (IsInsertBeside s e t last undo_next key rid dense max beside table new old w disk)
    pub stops : LeavesEdit d b base s t old disk
    pub full : IfErr result (λ e. e ≡ PagesFull → (get (contents b s.log) key ≡ None) × LacksRoomFor (settled b s.log) key × IsOver dense (settled b s.log) key max)
    pub used_up : IfErr result (λ e. e ≡ Capacity → (get (contents b s.log) key ≡ None) × LacksRoomFor (settled b s.log) key × IsUsedUp dense (settled b s.log) key × Decides table t (asked (Insert key rid) (contents b s.log)) GrantedAll new)
    pub limited : IfOk result (IfSeen (λ _. get (contents b s.log) key ≡ None → IsLimited dense (settled b s.log) key max) (Unit {0}))
    pub begun : IfErr result (λ e. e ≡ Failed → (get (contents b s.log) key ≡ None) × LacksRoomFor (settled b s.log) key × Decides table t (asked_begun key (contents b s.log)) GrantedAll new × Evicted d b base s old w disk)
    pub first : Bars (settled b s.log) beside (Insert key rid) (contents b s.log) → IsBarredOff result

  -- ---- where it goes on: what was laid down, after calls that change no page

  pub record MayCome (s : Writer) (e t last undo_next : ℕ) (key : Key) (dense : Bool) (max : ℕ) (beside : Beside) (coming : Coming) (w : PageWriter) (disk : D) : Type 0 where
    pub start : PageWriter
    pub since : D
    pub going : IsGoingOn d b base s e t last undo_next start since
    pub told : IsToldOf b beside s.log
    pub free : (page : ℕ) → coming ≡ Fits page → lawful.IsFree t key s.log
    pub calls : Ends d AreLoaded (mild_to_split (Some max)) start since w disk None
    pub comes : IsComing (settled_pages b s) beside key dense max (contents b s.log) coming

  -- what logging it keeps
  pub record ComingLogKept (s : Writer) (e t last undo_next : ℕ) (key : Key) (rid : ℕ) (dense : Bool) (max : ℕ) (beside : Beside) (coming : Coming) (old : D) (w : PageWriter) (disk : D) (result : Result Inserting Fault) : Type 0 where
    -- a change has begun where one was to
    pub laid : IfOk result (λ x. has_begun x ≡ begins true coming)
    pub sound : IsSound result (IsInserting s e t last undo_next key rid dense max beside old w disk)
    pub stops : LeavesEdit d b base s t old disk
    pub used_up : IfErr result (λ e. e ≡ Capacity → coming ≡ UsedUp)
    pub begun : IfErr result (λ e. e ≡ Failed → (plan : PlannedChange) × (leaf : ℕ) × (coming ≡ Splits plan leaf) × Evicted d b base s old w disk)

  -- The first page of a change is logged; where it is refused `Failed`, each page is as it was, and the log has Images more.
  pub record FirstKept (s : Writer) (begun : BegunChange) (old : D) (w : PageWriter) (disk : D) (result : Result BegunChange Fault) : Type 0 where
    pub sound : IsSound result (λ more. Stepped d b base s begun.change true more.change w disk)
    pub stops : LeavesGrown d b base s old disk
    pub late : IfErr result (λ e. e ≡ Failed → Evicted d b base s old w disk)

  -- ---- the end of an insert whose leaf was split first

  -- All pages of the transaction's change are logged, and its key goes into this leaf after it; no other net has the key, and the tree lacks it.
  pub record MayEnd (s : Writer) (e : ℕ) (change : Structure) (page : ℕ) (key : Key) (w : PageWriter) (disk : D) : Type 0 where
    pub stands : StandsAs d b base s w disk
    pub over : s.redo_end ≡ Some e
    pub goes : Goes b change s.log
    pub to : KeyGoesTo b s.log change.images key page
    pub free : lawful.IsFree change.transaction key s.log
    pub absent : get (contents b s.log) key ≡ None

  -- The record that closes the change joined the log and, after Images, that of the key: no change is open.
  pub record InsertEnded (s : Writer) (e : ℕ) (change : Structure) (page : ℕ) (key : Key) (rid lsn : ℕ) (w : PageWriter) (disk : D) : Type 0 where
    pub now : Writer
    pub stands : IsUnfinished d b base now e change.transaction lsn lsn w disk
    pub point : now.point ≡ s.point
    pub durable : IsFront s.durable now.durable
    pub closing : ℕ
    pub before : History
    pub images : GrowsByImages b (dummy_at closing change.transaction change.last change.undo_next ∷ s.log) before
    pub is : now.log ≡ key_record change.transaction closing lsn page (InsertKey key rid) ∷ before

  -- what that keeps
  pub record InsertEndKept (s : Writer) (e : ℕ) (change : Structure) (page : ℕ) (key : Key) (rid : ℕ) (old : D) (w : PageWriter) (disk : D) (result : Result ℕ Fault) : Type 0 where
    pub sound : IsSound result (λ lsn. InsertEnded s e change page key rid lsn w disk)
    pub stops : LeavesEdit d b base s change.transaction old disk

  -- ---- a key that goes

  -- Its record joined the log, after Images, on its leaf, which it does not leave empty, or which is the root, and which is none of the pages of the change beside.
  pub record TakenBeside (s : Writer) (e t last : ℕ) (key : Key) (beside : Beside) (lsn : ℕ) (w : PageWriter) (disk : D) : Type 0 where
    pub rid : ℕ
    pub there : get (contents b s.log) key ≡ Some rid
    pub page : ℕ
    pub apart : is_planned beside page ≡ false
    pub more : HasMore (settled b s.log) key
    pub logged : KeyLogged d b base s e t last page (DeleteKey key rid) lsn w disk

  -- Its record joined the log, after Images, with no change under way, and left its leaf empty: a change of the transaction begins that takes the leaf out of the tree, no page of which is logged.
  pub record DeleteBegun (s : Writer) (e t last : ℕ) (key : Key) (beside : Beside) (begun : BegunChange) (w : PageWriter) (disk : D) : Type 0 where
    pub rid : ℕ
    pub there : get (contents b s.log) key ≡ Some rid
    pub alone : beside.pages.now ≡ []
    pub closed : open_smo s.log ≡ []
    pub one : HasOne (settled b s.log) key
    pub page : ℕ
    pub lsn : ℕ
    pub logged : KeyLogged d b base s e t last page (DeleteKey key rid) lsn w disk
    pub owner : begun.change.transaction ≡ t
    pub newest : begun.change.last ≡ lsn
    pub leads : begun.change.undo_next ≡ lsn
    pub none : begun.change.done ≡ 0
    pub goes : Goes b begun.change logged.now.log
    pub count : begun.count ≡ (settled b logged.now.log 0).leftmost

  -- by what was granted
  abbrev pub IsDeleting : Writer → ℕ → ℕ → ℕ → Key → Beside → D → PageWriter → D → Deleting → Type 0
  IsDeleting s e t last key beside old w disk Gone = (get (contents b s.log) key ≡ None) × Evicted d b base s old w disk
  IsDeleting s e t last key beside old w disk (Taken lsn) = TakenBeside s e t last key beside lsn w disk
  IsDeleting s e t last key beside old w disk (Dropping begun) = DeleteBegun s e t last key beside begun w disk

  -- by the answer; where it is hidden no lock was asked
  abbrev pub IsDeleteBeside : Writer → ℕ → ℕ → ℕ → Key → Beside → Table → Table → D → PageWriter → D → Sight (LockAnswer Deleting) → Type 0
  IsDeleteBeside s e t last key beside table new old w disk (Seen (Granted x)) = Decides table t (asked (Delete key) (contents b s.log)) GrantedAll new × IsDeleting s e t last key beside old w disk x
  IsDeleteBeside s e t last key beside table new old w disk (Seen (Wait holder)) = Decides table t (asked (Delete key) (contents b s.log)) (MustWait holder) new × Evicted d b base s old w disk
  IsDeleteBeside s e t last key beside table new old w disk (Seen Die) = Decides table t (asked (Delete key) (contents b s.log)) MustDie new × Evicted d b base s old w disk
  IsDeleteBeside s e t last key beside table new old w disk Hidden = TreeCause (settled b s.log) beside (Delete key) (contents b s.log) × (new ≡ table) × Evicted d b base s old w disk

  -- What a delete keeps. A change beside that bars it is told before anything is locked.
  pub record DeleteBesideKept (s : Writer) (e t last : ℕ) (key : Key) (beside : Beside) (table new : Table) (old : D) (w : PageWriter) (disk : D) (result : Result (Sight (LockAnswer Deleting)) Fault) : Type 0 where
    pub sound : IsSound result (IsDeleteBeside s e t last key beside table new old w disk)
    pub stops : LeavesEdit d b base s t old disk
    pub first : Bars (settled b s.log) beside (Delete key) (contents b s.log) → IsBarredOff result

  -- where it goes on: what was laid down, after calls that change no page
  pub record MayLeave (s : Writer) (e t last undo_next : ℕ) (key : Key) (beside : Beside) (leaving : Leaving) (w : PageWriter) (disk : D) : Type 0 where
    pub start : PageWriter
    pub since : D
    pub going : IsGoingOn d b base s e t last undo_next start since
    pub told : IsToldOf b beside s.log
    pub free : get (contents b s.log) key ≢ None → lawful.IsFree t key s.log
    pub calls : Ends d AreLoaded mild start since w disk None
    pub leaves : IsLeaving (settled_pages b s) beside key (contents b s.log) leaving

  -- what logging it keeps
  pub record LeavingLogKept (s : Writer) (e t last : ℕ) (key : Key) (beside : Beside) (old : D) (w : PageWriter) (disk : D) (result : Result Deleting Fault) : Type 0 where
    pub sound : IsSound result (IsDeleting s e t last key beside old w disk)
    pub stops : LeavesEdit d b base s t old disk
