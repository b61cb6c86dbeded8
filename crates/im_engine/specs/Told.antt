-- What a reply alone says of an engine, and why a step is refused.
use Rattle.std.specs.Prelude.{◌≡◌, ◌≢◌, ◌⊎◌, ◌↔◌, ◌||◌, ◌+◌, ◌-◌, ◌++◌, ◌∷◌, [], ◌≤◌, ◌<◌, ◌^◌, ℕ, Bool, true, false, List, Option, None, Some, is_some, find, length, if◌then◌else◌}
use Rattle.std.specs.FinMap.{empty, get}
use Rattle.im_base_types.specs.Answers as answers
use Rattle.im_base_types.specs.Changes.{Put, Drop, Effect, apply_all}
use Rattle.im_theory_log.specs.Histories.{Base}
use Rattle.im_base_types.specs.Keys.{Key}
use Rattle.im_base_types.specs.Lives.{Shown, breaks, effects}
use Rattle.im_base_types.specs.Maps.{IndexMap}
use Rattle.im_theory_log.specs.Structure.{settled}
use Rattle.im_base_types.specs.declared.file_id.FileId.TheVariants.{Pages as PagesFile}
use Rattle.im_base_disk.specs.declared.disk.Disk.{Ghosts}
use Rattle.im_base_disk.specs.Runs.{CostsAtMost}
use Rattle.im_log_record.specs.Entry as entries
use Rattle.im_log_record.specs.Entry.{Entry}
use Rattle.im_log_record.specs.Spelling.{size_of}
use Rattle.im_log.specs.declared.log_file.LogFile.{LogFile}
use Rattle.im_log.specs.Switching.{next_gate}
use Rattle.im_log.specs.LogFile.{HasNoRoom, end_with}
use Rattle.im_log_gate.specs.Gate.{generation_at}
use Rattle.im_theory_page.specs.PageFile.{page_count}
use Rattle.im_page_pool.specs.Pool.{is_changed}
use Rattle.im_page_writer.specs.Checkpoints.{CheckpointCosts}
use Rattle.im_page_flush.specs.Costs.{PageCosts}
use Rattle.im_page_writer.specs.PageWriter.{Evicted}
use Rattle.im_page_table.specs.DirtyTable.{dirty_pages, has_room, synced_entries, FitsRecord}
use Rattle.im_engine_checkpoint.specs.Rows.{listed}
use Rattle.im_theory_tree.specs.Levels.{Pages}
use Rattle.im_smo_split.specs.Plan.{IsWithin, IsOver}
use Rattle.im_smo_split.specs.Tops.{LacksRoomFor}
use Rattle.im_smo_actions.specs.Structure.{IsUsedUp}
use Rattle.im_engine_access.specs.Edits.{HasOne}
use Rattle.im_restart_undo.specs.Planning.{HoldsOneKey}
use Rattle.im_restart_undo.specs.Undoing.{HasBegun}
use Rattle.im_tree_search.specs.declared.change_beside.Beside.{Beside}
use Rattle.im_tree_search.specs.HeldPages.{HoldsBack, HoldsOn}
use Rattle.im_base_txn.specs.declared.transaction.Transaction.{Transaction}
use Rattle.im_base_txn.specs.Rows.{is_of}
use Rattle.im_theory_machine.specs.Locks.{Lock, IsFree}
use Rattle.im_theory_machine.specs.Rows.{asked}
use Rattle.im_theory_machine.specs.Table.{SameTable, locks_of}
use Rattle.im_theory_machine.specs.View as views
use Rattle.im_theory_machine.specs.View.{View, owner_of, owns_in}
use Rattle.im_theory_machine.specs.Machine.{first_check, mark_for}
use Rattle.im_theory_steps.specs.Checks.{marks_in}
use Rattle.im_base_types.specs.declared.redo_report.RedoReport.{RedoReport}
use Rattle.im_base_types.specs.declared.fault.Fault.{Fault}
use Rattle.im_base_types.specs.declared.fault.Fault.TheVariants.{NoTransaction, MustRollBack, KeyLength, RollingBack, PagesFull, Capacity, LogFull, Device, Memory, Failed, NotAStore, TooMany, Busy, Unfinished}
use Rattle.im_base_steps.specs.declared.step.Step.{Step}
use Rattle.im_base_steps.specs.declared.reply.Reply.{Reply}
use Rattle.im_base_steps.specs.declared.reply.Reply.TheVariants.{Started, Inserted, Deleted, Committed, RolledBack, More, Done, Refused}
use Rattle.im_base_steps.specs.Calls.{asked_by, told_by, is_force}
use Rattle.im_base_types.specs.Faults.{number_of}
use Rattle.im_base_steps.specs.Replies.{is_commit, Suits, SuitsAtOnce}
use Rattle.im_engine.specs.declared.engine.Engine.{Engine}
use Rattle.im_engine.specs.declared.stepped.Under.{Under}
use Rattle.im_engine.specs.Aims.{under_of, IsSameUnder, IsToldTo}
use Rattle.im_engine.specs.Paces.{Bars, EndsAs, GoesOnWith, IsRefusal, TreeCause, is_of_owner}
use Rattle.im_engine.specs.Numbered.{Numbered}
use Rattle.im_engine.specs.Costs.{CommitCosts, ForceCosts, RollbackCosts}
use Rattle.im_engine.specs.Running.{IsRunning, IsLife}
use Rattle.im_engine.specs.Kept.{StepKept}

-- ---- what a reply says of the engine

-- what an opening settles, and no step changes
pub record Fixed : Type 0 where
  -- the most pages
  pub max_pages : ℕ
  -- whether splits are dense
  pub dense : Bool
  -- what redo did
  pub redo : RedoReport
  -- whether a structure change is made page by page
  pub stepped : Bool

-- what a user knows of an engine between steps
pub record Known : Type 0 where
  -- whether it has failed
  pub failed : Bool
  -- how many transactions are active
  pub active : ℕ
  -- how many of them wait for a force
  pub waiting : ℕ
  -- whether a Commit waits for a force
  pub group : Bool
  -- the number that a Begin takes next
  pub next : ℕ
  pub fixed : Fixed

-- What a reply to a step makes of it: a Begin takes the next number, and one more is active; a Commit that is answered More waits; a transaction that ended is active no more; a force ends all that wait; a refusal may break
-- the engine; no other reply changes it.
abbrev pub after : answers.Step → Reply → Known → Known
after step (Started n) k = record k { active = k.active + 1; next = k.next + 1 }
after step Committed k = record k { active = k.active - 1 }
after step RolledBack k = record k { active = k.active - 1 }
after step More k = if is_commit step then record k { waiting = k.waiting + 1 } else k
after step Done k = if is_force step then record k { active = k.active - k.waiting; waiting = 0 } else k
after step (Refused fault) k = record k { failed = k.failed || breaks (number_of fault) }
after step _ k = k

-- a transaction that begins has the number that was next
abbrev pub HasNext : Reply → ℕ → Type 0
HasNext (Started n) next = n ≡ next
HasNext _ next = Unit {0}

-- the refusals before any page is read
abbrev pub is_early : Reply → Bool
is_early (Refused NoTransaction) = true
is_early (Refused MustRollBack) = true
is_early (Refused KeyLength) = true
is_early (Refused RollingBack) = true
is_early (Refused TooMany) = true
is_early (Refused Busy) = true
is_early (Refused Unfinished) = true
is_early _ = false

module _ {D : Type 0} (d : Ghosts D) where
  abbrev pub fixed_of : Engine D d → Fixed
  fixed_of e = record { max_pages = e.max_pages; dense = e.dense; redo = e.report; stepped = e.stepped }

  abbrev pub known_of : Engine D d → Known
  known_of e = record { failed = e.failed; active = length e.txns.rows; waiting = e.txns.waiting; group = e.txns.group; next = e.txns.next; fixed = fixed_of e }

  -- What the reply to a step alone says of the engine.
  pub record IsTold (step : answers.Step) (reply : Reply) (old new : Engine D d) : Type 0 where
    pub known : known_of new ≡ after step reply (known_of old)
    pub number : HasNext reply old.txns.next
    -- an engine that has failed answers nothing else
    pub failed : old.failed ≡ true → reply ≡ Refused Failed
    -- the whole engine is as it was where it had failed, or was asked what no page had to be read to refuse
    pub same : (old.failed || is_early reply) ≡ true → new ≡ old
    -- after a want of memory or of pages every transaction has the mark and the records that it had, and holds the locks that it held
    pub mild : (reply ≡ Refused Memory) ⊎ (reply ≡ Refused PagesFull) → (new.txns ≡ old.txns) × SameTable old.locks new.locks
    -- a disk that fails is told, whatever else would refuse the step
    pub device : old.failed ≡ false → d.failed new.disk ≡ true → reply ≡ Refused Device

-- ---- why a step is refused

-- One thing where this holds, and the other where it does not.
abbrev pub Where : Type 0 → Type 0 → Type 0 → Type 0
Where P A B = (P × A) ⊎ ((P → ⊥) × B)

-- the transaction of a row has records
abbrev pub HasLogged : Option Transaction → Type 0
HasLogged None = ⊥
HasLogged (Some row) = 1 ≤ row.last

-- it has records, and changes that stand
abbrev pub HasChanged : Option Transaction → Type 0
HasChanged None = ⊥
HasChanged (Some row) = (1 ≤ row.last) × (1 ≤ row.changes)

-- it has records, but all of its changes are taken back
abbrev pub IsEmptied : Option Transaction → Type 0
IsEmptied None = ⊥
IsEmptied (Some row) = (1 ≤ row.last) × (row.changes ≡ 0)

-- no more than so many changes of it stand
abbrev pub HasAtMost : ℕ → Option Transaction → Type 0
HasAtMost left None = ⊥
HasAtMost left (Some row) = row.changes ≤ left

-- A Commit is answered at once where Commits do not wait for a force, or no change of its transaction stands, and else it waits. A RollTo is answered Done where no more changes stand than it leaves, and else More.
abbrev pub SuitsGroup : answers.Step → Reply → Numbered → Type 0
SuitsGroup (answers.Commit t) Committed txns = (txns.group ≡ false) ⊎ (HasChanged (find (is_of t) txns.rows) → ⊥)
SuitsGroup (answers.Commit t) More txns = (txns.group ≡ true) × HasChanged (find (is_of t) txns.rows)
SuitsGroup (answers.RollTo t left) Done txns = HasAtMost left (find (is_of t) txns.rows)
SuitsGroup (answers.RollTo t left) More txns = HasAtMost left (find (is_of t) txns.rows) → ⊥
SuitsGroup _ _ txns = Unit {0}

-- The fault is that of the first check that is failed; where none is, it has this cause.
abbrev pub Checked : Option ℕ → Fault → Type 0 → Type 0
Checked None fault cause = cause
Checked (Some n) fault cause = number_of fault ≡ n

module _ {D : Type 0} (d : Ghosts D) (log : LogFile) (disk : D) where
  -- why a step that reads is refused, by the log and the disk that it left; that the bytes are no store's comes of no store that was sound
  abbrev pub ReadCause : Fault → Type 0
  ReadCause Device = d.failed disk ≡ true
  ReadCause LogFull = HasNoRoom log
  ReadCause Memory = Unit {0}
  ReadCause NotAStore = Unit {0}
  ReadCause _ = ⊥

  -- why the flush of a page is
  abbrev pub FlushCause : Fault → Type 0
  FlushCause Device = d.failed disk ≡ true
  FlushCause LogFull = HasNoRoom log
  FlushCause _ = ⊥

  -- why a delete is: it fails for want of memory after the grant of its locks
  abbrev pub DeleteCause : Fault → Type 0
  DeleteCause Failed = Unit {0}
  DeleteCause fault = ReadCause fault

  -- and a Switch, once it has begun: the disk fails, or an Image, or the first gate of the next log after the Images, would lie above the greatest LSN
  abbrev pub SwitchCause : Fault → Type 0
  SwitchCause Device = d.failed disk ≡ true
  SwitchCause LogFull = (2 ^ 62 < next_gate log + 47) ⊎ (2 ^ 62 < end_with log 4129)
  SwitchCause _ = ⊥

  -- and a change that is taken back, where a key that comes back may want pages
  abbrev pub TurnCause : Fault → Type 0
  TurnCause Failed = Unit {0}
  TurnCause Capacity = Unit {0}
  TurnCause fault = ReadCause fault

  -- and an insert: `InsertWants` says when pages and numbers are wanted
  abbrev pub InsertCause : Fault → Type 0
  InsertCause PagesFull = Unit {0}
  InsertCause fault = TurnCause fault

module _ {D : Type 0} (d : Ghosts D) where
  -- the first gate of the next log would lie above the greatest LSN, even with no Image
  abbrev pub EndsNearTop : Engine D d → Type 0
  EndsNearTop e = 2 ^ 62 < next_gate e.writer.log + 47

  -- there is no next generation of the log
  abbrev pub IsLastLog : Engine D d → Type 0
  IsLastLog e = 2 ^ 62 ≤ generation_at e.writer.log.gate + 1

  -- Steps that may make a device call: not a Begin, a RollTo, a Rollback, but where all changes are taken back and the End does not fit into the buffer, a Commit of a transaction that has no records, or one that waits for a force, or of which no change stands, and whose record fits into the buffer, the flush of a page that was not changed, a force where nothing is buffered, a Switch of a log after which there is no other.
  abbrev pub CallsDevice : answers.Step → Engine D d → Type 0
  CallsDevice answers.Begin e = ⊥
  CallsDevice (answers.Do t access) e = Unit {0}
  CallsDevice (answers.Commit t) e = HasLogged (find (is_of t) e.txns.rows) × ((HasChanged (find (is_of t) e.txns.rows) × (e.txns.group ≡ false)) ⊎ (16384 < e.writer.log.used + 33))
  CallsDevice (answers.Rollback t) e = IsEmptied (find (is_of t) e.txns.rows) × (16384 < e.writer.log.used + 33)
  CallsDevice (answers.Continue t) e = Unit {0}
  CallsDevice (answers.RollTo t left) e = ⊥
  CallsDevice (answers.FlushPage page) e = is_changed e.writer.pool page ≡ true
  CallsDevice answers.Force e = 1 ≤ e.writer.log.used
  CallsDevice answers.Checkpoint e = Unit {0}
  CallsDevice answers.Switch e = (EndsNearTop e → ⊥) × (IsLastLog e → ⊥)

  -- Steps that make none: those, and one that reads where page 0 is held, the pages of its key's way, and the leaves after; of a Prev the leaves before too.
  abbrev pub IsIdle : answers.Step → Engine D d → Type 0
  IsIdle (answers.Do t (answers.Fetch key)) e = (set : ℕ → Bool) × HoldsOn key e.writer.pool set
  IsIdle (answers.Do t (answers.Seek key)) e = (set : ℕ → Bool) × HoldsOn key e.writer.pool set
  IsIdle (answers.Do t (answers.Next key)) e = (set : ℕ → Bool) × HoldsOn key e.writer.pool set
  IsIdle (answers.Do t (answers.Prev key)) e = (set : ℕ → Bool) × HoldsOn key e.writer.pool set × HoldsBack key e.writer.pool set
  IsIdle (answers.Do t (answers.Scan lo hi limit)) e = (set : ℕ → Bool) × HoldsOn lo e.writer.pool set
  IsIdle step e = CallsDevice step e → ⊥

  -- What a step costs that is asked for to bring records or a page to the disk. A Checkpoint costs so little where it need write no page first, as its record has room for each that was changed since its last write, and else no more after these writes.
  abbrev pub StepCosts : answers.Step → Reply → Engine D d → Engine D d → Type 0
  StepCosts (answers.Commit t) reply old new = CommitCosts d old.writer.log.used (HasChanged (find (is_of t) old.txns.rows)) reply old.disk new.disk
  StepCosts (answers.Rollback t) reply old new = RollbackCosts d old.disk new.disk
  StepCosts answers.Force reply old new = ForceCosts d old.writer.log.used reply old.disk new.disk
  StepCosts (answers.FlushPage page) reply old new =
      reply ≡ Done → is_changed old.writer.pool page ≡ true → PageCosts d page (page_count (d.seen old.disk PagesFile)) (has_room page old.writer.table) old.disk new.disk
  StepCosts answers.Checkpoint reply old new = (FitsRecord old.writer.table → CostsAtMost d 4 5 old.disk new.disk) × (reply ≡ Done → CheckpointCosts d old.writer old.disk new.disk)
  StepCosts answers.Switch reply old new = old.writer.table.entries ≡ [] → CostsAtMost d 5 6 old.disk new.disk
  StepCosts _ reply old new = Unit {0}

  -- the record of a Checkpoint that is taken now, where no page is written first
  abbrev pub checkpoint_of : Engine D d → Entry
  checkpoint_of e = entries.Checkpoint e.txns.next (listed e.txns.rows) (dirty_pages (synced_entries e.writer.table))

  -- the first check that a step fails, by what the engine knows without any page or lock
  abbrev pub check_of : answers.Step → Engine D d → Option ℕ
  check_of step e = first_check e.failed (length e.txns.rows) (mark_for (marks_in e.txns.rows) step) (owns_in (under_of e.under) step) step

  module _ (reply : Reply) (old : Engine D d) (log : LogFile) (disk : D) (fault : Fault) where
    -- refused for a cause of this kind
    abbrev pub IsFor : (Fault → Type 0) → Type 0
    IsFor Cause = (reply ≡ Refused fault) × Cause fault

    -- a force is refused just where the disk fails
    abbrev pub OfForce : Type 0
    OfForce = Where (d.failed disk ≡ true) (fault ≡ Device) ⊥

    -- After the checks, why this fault refuses a step that left this log and this disk. The record of a Commit takes 33 bytes, and so does the End of one of which no change stands. A Checkpoint syncs the file of pages before its record joins the log, so a disk that fails is told first; where it writes pages before that, it may be refused as a flush is, or for its record, and the log is full either way. A Rollback that was let through is refused only where all changes are taken back, as the End is logged, of 33 bytes too; a RollTo never.
    abbrev pub Refuses : answers.Step → Type 0
    Refuses answers.Begin = Where (2 ^ 62 < old.txns.next) (fault ≡ Capacity) ⊥
    Refuses (answers.Do t (answers.Fetch key)) = IsFor (ReadCause d log disk)
    Refuses (answers.Do t (answers.Seek key)) = IsFor (ReadCause d log disk)
    Refuses (answers.Do t (answers.Next key)) = IsFor (ReadCause d log disk)
    Refuses (answers.Do t (answers.Prev key)) = IsFor (ReadCause d log disk)
    Refuses (answers.Do t (answers.Scan lo hi limit)) = IsFor (ReadCause d log disk)
    Refuses (answers.Do t (answers.Insert key rid)) = IsFor (InsertCause d log disk)
    Refuses (answers.Do t (answers.Delete key)) = IsFor (DeleteCause d log disk)
    Refuses (answers.Commit t) = Where (HasLogged (find (is_of t) old.txns.rows)) (Where (2 ^ 62 < end_with old.writer.log 33) (fault ≡ LogFull) OfForce) ⊥
    Refuses (answers.Rollback t) = Where (IsEmptied (find (is_of t) old.txns.rows)) (Where (2 ^ 62 < end_with old.writer.log 33) (fault ≡ LogFull) OfForce) ⊥
    Refuses (answers.RollTo t left) = ⊥
    Refuses (answers.Continue t) = IsFor (TurnCause d log disk)
    Refuses (answers.FlushPage page) = IsFor (FlushCause d log disk)
    Refuses answers.Force = OfForce
    Refuses answers.Checkpoint = Where (d.failed disk ≡ true) (fault ≡ Device) (Where (FitsRecord old.writer.table) (Where (2 ^ 62 < end_with old.writer.log (size_of (checkpoint_of old))) (fault ≡ LogFull) ⊥) (IsFor (FlushCause d log disk)))
    Refuses answers.Switch = Where (EndsNearTop old) (fault ≡ LogFull) (Where (IsLastLog old) (fault ≡ Capacity) (IsFor (SwitchCause d log disk)))

  -- A step is refused exactly by the first check that it fails, or else for its cause.
  abbrev pub IsAnswered : answers.Step → Reply → Engine D d → Engine D d → Type 0
  IsAnswered step reply old new = (fault : Fault) → (reply ≡ Refused fault) ↔ Checked (check_of step old) fault (Refuses reply old new.writer.log new.disk fault step)

-- ---- what a step asks of the pages that users see

-- refused for pages, for page numbers, or for want of memory after the grant of its locks
pub data AsksChange (reply : Reply) : Type 0 where
  wants_pages : reply ≡ Refused PagesFull → AsksChange reply
  wants_numbers : reply ≡ Refused Capacity → AsksChange reply
  wants_memory : reply ≡ Refused Failed → AsksChange reply

module _ (pages : Pages) (map : IndexMap) where
  -- The newest of these changes dropped a key, which the tree lacks and whose leaf is without room for it now.
  pub record LacksRoom (net : Effect) : Type 0 where
    pub key : Key
    pub rid : ℕ
    pub older : Effect
    pub newest : net ≡ Drop key rid ∷ older
    pub absent : get map key ≡ None
    pub lacks : LacksRoomFor pages key

  -- The newest of these changes needs a structure change to be taken back: a key that goes leaves its leaf empty, or one that comes back finds its leaf without room.
  abbrev pub NeedsBack : Effect → Type 0
  NeedsBack [] = ⊥
  NeedsBack (Put k r ∷ older) = HoldsOneKey pages k
  NeedsBack (Drop k r ∷ older) = LacksRoomFor pages k

  -- A change that is taken back is refused `Memory` only where a key comes back that finds its leaf without room, so that its split is planned, or, by a store that makes its structure changes page by page, where it needs one, `Capacity` only where a split can't be had, and `Failed` only after a record of the
  -- transaction (`Begun`). By such a store, with none under way, one that needs a structure change begins it and is not made at once. `t` is its transaction.
  pub record TurnWants (stepped : Bool) (was now : Option views.Under) (t : ℕ) (net : Effect) (Begun : Type 0) (reply : Reply) : Type 0 where
    pub short : reply ≡ Refused Memory → owner_of was ≢ Some t → LacksRoom net ⊎ ((stepped ≡ true) × NeedsBack net)
    pub used_up : reply ≡ Refused Capacity → (wants : LacksRoom net) × IsUsedUp false pages wants.key
    pub broken : reply ≡ Refused Failed → Begun
    pub begun : stepped ≡ true → was ≡ None → NeedsBack net → ((reply ≡ More) × (is_some now ≡ true)) ⊎ IsRefusal reply

-- `Idle` says that nothing but Images joined the log.
module _ (pages : Pages) (map : IndexMap) (Idle : Type 0) where
  -- An insert meets the limit of pages first, then its locks, then the end of page numbers and levels. Where the key is absent and its leaf lacks room it is made only within the limit, waits or dies only within it or where the end is reached, and is refused `PagesFull` only over it, and `Capacity` only
  -- at the end; its locks were granted where that is answered, or `Failed`, which comes only where the leaf lacks room or nothing but Images joined the log. A key that is there is a Duplicate, and none of these.
  -- By a store that makes its structure changes page by page it then begins, answered More, and is never made at once; and one that finds the tree blocked has met no limit.
  pub record InsertWants (stepped : Bool) (locks : ℕ → List Lock) (dense : Bool) (max_pages t : ℕ) (key : Key) (rid : ℕ) (reply : Reply) : Type 0 where
    pub made : reply ≡ Inserted → LacksRoomFor pages key → IsWithin dense pages key max_pages
    pub at_once : reply ≡ Inserted → LacksRoomFor pages key → stepped ≡ false
    pub begun : reply ≡ More → LacksRoomFor pages key × IsWithin dense pages key max_pages
    pub limited : ((fault : Fault) → reply ≢ Refused fault) → told_by reply ≢ answers.BlockedTree → get map key ≡ None → LacksRoomFor pages key → IsWithin dense pages key max_pages ⊎ IsUsedUp dense pages key
    pub full : reply ≡ Refused PagesFull → LacksRoomFor pages key × IsOver dense pages key max_pages
    pub used_up : reply ≡ Refused Capacity → LacksRoomFor pages key × IsUsedUp dense pages key
    pub granted : (reply ≡ Refused Capacity) ⊎ (reply ≡ Refused Failed) → IsFree locks t (asked (answers.Insert key rid) map)
    pub absent : AsksChange reply → get map key ≡ None
    pub broken : reply ≡ Refused Failed → LacksRoomFor pages key ⊎ Idle

  -- A delete fails late only of a key that is there, after the grant of its locks, and only where it is its leaf's only one or nothing but Images joined the log.
  pub record DeleteFails (locks : ℕ → List Lock) (t : ℕ) (key : Key) : Type 0 where
    pub there : get map key ≢ None
    pub granted : IsFree locks t (asked (answers.Delete key) map)
    pub broken : HasOne pages key ⊎ Idle

  -- It is made at once where its leaf keeps another key, or by a store that makes each structure change within a step; else it begins, answered More, only where it leaves its leaf empty.
  pub record DeleteWants (stepped : Bool) (locks : ℕ → List Lock) (t : ℕ) (key : Key) (reply : Reply) : Type 0 where
    pub fails : reply ≡ Refused Failed → DeleteFails locks t key
    pub at_once : reply ≡ Deleted → HasOne pages key → stepped ≡ false
    pub begun : reply ≡ More → HasOne pages key

  -- Of the steps that is asked of inserts and of deletes, where a key that is not there is Absent. Of a change that is taken back it is asked what it wants room for, by the net of its transaction.
  abbrev pub WantsOf : (stepped : Bool) (was now : Option views.Under) → (ℕ → Type 0) → (ℕ → Effect) → (ℕ → List Lock) → Bool → ℕ → answers.Step → Reply → Type 0
  WantsOf stepped was now Begun nets locks dense max_pages (answers.Do t (answers.Insert key rid)) reply = InsertWants stepped locks dense max_pages t key rid reply
  WantsOf stepped was now Begun nets locks dense max_pages (answers.Do t (answers.Delete key)) reply = DeleteWants stepped locks t key reply
  WantsOf stepped was now Begun nets locks dense max_pages (answers.Continue t) reply = TurnWants pages map stepped was now t (nets t) (Begun t) reply
  WantsOf stepped was now Begun nets locks dense max_pages _ reply = Unit {0}

-- An access that is answered has the answer of one user alone on the map of all that was committed, with what its transaction did on top, also where a later step answers it.
abbrev pub AnswersAlone : List Effect → Shown → answers.Step → answers.Reply → Type 0
AnswersAlone before s (answers.Do t access) reply = answers.is_answer reply ≡ true → reply ≡ answers.answer access (apply_all empty ((before ++ effects s.asked) ++ (s.running t).effect ∷ []))
AnswersAlone before s (answers.Continue t) reply = (access : answers.Access) → (s.running t).pending ≡ Some access → answers.is_answer reply ≡ true
    → reply ≡ answers.answer access (apply_all empty ((before ++ effects s.asked) ++ (s.running t).effect ∷ []))
AnswersAlone before s _ reply = Unit {0}

-- ---- a step that was made

module _ {D : Type 0} (d : Ghosts D) where
  -- what a step asks of the pages of an engine that works
  abbrev pub WantsHere : {old : Engine D d} (b : Base) (before : List Effect) (s : Shown) (v : View) → IsRunning d b before s v old → answers.Step → Reply → Engine D d → Type 0
  WantsHere {old} b before s v r step reply new =
      WantsOf (settled b r.now.log) v.walk (Evicted d b r.base r.now old.disk new.writer new.disk) old.stepped (under_of old.under) (under_of new.under) (λ t. HasBegun d b r.base r.now t new.writer new.disk) (λ t. (v.txns t).net) (locks_of old.locks) old.dense old.max_pages step reply

  -- what was told of the structure change under way, which is another's than the step's
  pub record IsBlockedBy (b : Base) (before : List Effect) (s : Shown) (v : View) (step : answers.Step) (old : Engine D d) (r : IsRunning d b before s v old) : Type 0 where
    pub u : Under
    pub under : old.under ≡ Some u
    pub beside : Beside
    pub told : IsToldTo u beside
    pub other : is_of_owner (u.begun.change.transaction) step ≡ false
    pub cause : TreeCause (settled b r.now.log) beside v.walk r.now.log step

  -- How a step goes on with the structure change under way, or beside it. It is told that the tree is blocked only for a cause; and after the checks nothing else is told it first, where the change bars it, but that the device failed or the log is full. By its owner's Continue a page of it is made, or it ends; any
  -- other step leaves it as it was, or begins it where there was none, by a store that makes its structure changes page by page.
  pub record IsPaced (step : answers.Step) (reply : Reply) (old new : Engine D d) : Type 0 where
    pub tree : told_by reply ≡ answers.BlockedTree → (b : Base) (before : List Effect) (s : Shown) (v : View) (r : IsRunning d b before s v old) → IsBlockedBy b before s v step old r
    pub first : check_of d step old ≡ None → (b : Base) (before : List Effect) (s : Shown) (v : View) (r : IsRunning d b before s v old) (u : Under) → old.under ≡ Some u → is_of_owner (u.begun.change.transaction) step ≡ false
        → (beside : Beside) → IsToldTo u beside → Bars (settled b r.now.log) beside v.walk r.now.log step → (told_by reply ≡ answers.BlockedTree) ⊎ (reply ≡ Refused Device) ⊎ (reply ≡ Refused LogFull)
    -- over any disk its owner is told of no other end
    pub told : check_of d step old ≡ None → (u : Under) → old.under ≡ Some u → step ≡ answers.Continue u.begun.change.transaction → IsRefusal reply ⊎ ((reply ≡ More) ⊎ EndsAs u.aim reply)
    pub own : check_of d step old ≡ None → (b : Base) (before : List Effect) (s : Shown) (v : View) (r : IsRunning d b before s v old) (u : Under) → old.under ≡ Some u → step ≡ answers.Continue u.begun.change.transaction → GoesOnWith u reply new.under
    pub others : (b : Base) (before : List Effect) (s : Shown) (v : View) (r : IsRunning d b before s v old) → ((u : Under) → old.under ≡ Some u → step ≢ answers.Continue u.begun.change.transaction) → IsSameUnder old.under new.under ⊎ ((old.under ≡ None) × (old.stepped ≡ true) × (reply ≡ More) × (is_some new.under ≡ true))

  -- a step of what was asked so, after the checks
  pub record IsMade (step : answers.Step) (reply : Reply) (old new : Engine D d) : Type 0 where
    pub kept : (before : List Effect) (s : Shown) (v : View) → IsLife d before s v old → StepKept d before s v step (told_by reply) old new
    pub told : IsTold d step reply old new
    pub answered : IsAnswered d step reply old new
    pub suits : Suits step (told_by reply)
    pub at_once : old.stepped ≡ false → SuitsAtOnce step (told_by reply)
    pub paced : IsPaced step reply old new
    pub grouped : SuitsGroup step reply old.txns
    pub frames : new.writer.pool.frames ≡ old.writer.pool.frames
    pub wants : (b : Base) (before : List Effect) (s : Shown) (v : View) (r : IsRunning d b before s v old) → WantsHere b before s v r step reply new
    pub quiet : IsIdle d step old → new.disk ≡ old.disk
    pub costs : StepCosts d step reply old new

  -- a step of the engine
  pub record IsStep (step : Step) (reply : Reply) (old new : Engine D d) : Type 0 where
    pub kept : (before : List Effect) (s : Shown) (v : View) → IsLife d before s v old → StepKept d before s v (asked_by step) (told_by reply) old new
    pub alone : (before : List Effect) (s : Shown) (v : View) → IsLife d before s v old → AnswersAlone before s (asked_by step) (told_by reply)
    pub told : IsTold d (asked_by step) reply old new
    -- a step that fails a check is refused by it, and changes nothing
    pub checked : (fault : Fault) → Some (number_of fault) ≡ check_of d (asked_by step) old → (reply ≡ Refused fault) × (new ≡ old)
    pub answered : IsAnswered d (asked_by step) reply old new
    -- over any disk, a reply is of those that its step may have
    pub suits : Suits (asked_by step) (told_by reply)
    pub at_once : old.stepped ≡ false → SuitsAtOnce (asked_by step) (told_by reply)
    -- how it goes on with a structure change that is made page by page, or beside it
    pub paced : IsPaced (asked_by step) reply old new
    -- a Commit that is not refused is answered More just where Commits wait for a force and changes of its transaction stand, and a RollTo just where more stand than it leaves
    pub grouped : SuitsGroup (asked_by step) reply old.txns
    pub wants : old.failed ≡ false → (b : Base) (before : List Effect) (s : Shown) (v : View) (r : IsRunning d b before s v old) → WantsHere b before s v r (asked_by step) reply new
    -- what finds all that it reads held, or has nothing to write, asks nothing of the disk
    pub quiet : IsIdle d (asked_by step) old → new.disk ≡ old.disk
    pub costs : StepCosts d (asked_by step) reply old new
    pub works : d.failed new.disk ≡ true → new.failed ≡ true
    -- the bytes of a sound store are never found to be none
    pub never : (before : List Effect) (s : Shown) (v : View) → IsLife d before s v old → reply ≢ Refused NotAStore
    pub max_pages : new.max_pages ≡ old.max_pages
    pub dense : new.dense ≡ old.dense
    pub stepped : new.stepped ≡ old.stepped
    pub frames : new.writer.pool.frames ≡ old.writer.pool.frames
    pub report : new.report ≡ old.report
