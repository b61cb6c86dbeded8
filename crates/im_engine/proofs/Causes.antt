-- Why a step is refused, from how the calls within it ended.
use Rattle.std.proofs.Common.{◌≡◌, ◌≢◌, ◌⊎◌, inl, inr, ⊎_elim, ℕ, ◌+◌, ◌^◌, ◌<◌, ◌≤◌, Bool, true, false, length, List, Option, None, Some, refl, sym, ap, subst, ◌∙◌, arith}
use Rattle.std.specs.Prelude.{◌↔◌, find}
use Rattle.std.proofs.lemmas.Bool.{cases_lt}
use Rattle.im_base_types.specs.Answers as answers
use Rattle.im_base_types.specs.declared.fault.Fault.{Fault}
use Rattle.im_base_types.specs.declared.fault.Fault.TheVariants.{PagesFull, Capacity, LogFull, Device, Memory, Failed, NotAStore}
use Rattle.im_base_types.specs.Keys.{Key}
use Rattle.im_base_disk.specs.declared.disk.Disk.{Ghosts}
use Rattle.im_log_gate.specs.Gate.{generation_at}
use Rattle.im_log_record.specs.Spelling.{size_of}
use Rattle.im_log.specs.Switching.{next_gate}
use Rattle.im_log.specs.declared.log_file.LogFile.{LogFile}
use Rattle.im_log.specs.LogFile.{end_with, HasNoRoom}
use Rattle.im_page_table.specs.DirtyTable.{TableView, synced_entries, FitsRecord}
use Rattle.im_page_writer.specs.declared.page_writer.PageWriter.{PageWriter}
use Rattle.im_page_writer.specs.Outcome.{AreLoaded, AsksNothing, Ends, LogEnds, mild, none_mild}
use Rattle.im_page_writer.specs.Switching.{MayNotSwitch, RefusesSwitch}
use Rattle.im_engine_access.specs.LockAnswers.{seek_at}
use Rattle.im_base_txn.specs.declared.transaction.Transaction.{Transaction}
use Rattle.im_base_txn.specs.Rows.{is_of}
use Rattle.im_base_types.specs.Faults.{number_of}
use Rattle.im_theory_machine.specs.Machine.{Breaks, first_check, mark_for}
use Rattle.im_theory_steps.specs.Checks.{checked_by, marks_in}
use Rattle.im_base_types.specs.declared.fault.Fault.TheVariants as faults
use Rattle.im_base_steps.specs.declared.reply.Reply.{Reply}
use Rattle.im_base_steps.specs.declared.reply.Reply.TheVariants.{Refused}
use Rattle.im_engine.specs.declared.engine.Engine.{Engine}
use Rattle.im_engine.specs.Faults.{told_as, ends_engine}
use Rattle.im_engine.specs.Told.{Where, Checked, HasChanged, HasLogged, IsEmptied, IsFor, OfForce, Refuses, ReadCause, FlushCause, DeleteCause, InsertCause, SwitchCause, CallsDevice, EndsNearTop, IsLastLog, check_of, checkpoint_of}
use Rattle.im_theory_machine.specs.View.{owns_in}
use Rattle.im_engine.specs.Aims.{under_of}
use Rattle.im_engine.proofs.Looked.{not_true}

-- ---- one check after another

-- this one holds
pub here : {X P A B : Type 0} → P → (X ↔ A) → (X ↔ Where P A B)
here p same = (λ x. inl (p, same.0 x), λ w. ⊎_elim (λ h. same.1 h.1) (λ h. absurd (h.0 p)) w)

-- this one does not
pub past : {X P A B : Type 0} → (P → ⊥) → (X ↔ B) → (X ↔ Where P A B)
past not same = (λ x. inr (not, same.0 x), λ w. ⊎_elim (λ h. absurd (not h.0)) (λ h. same.1 h.1) w)

-- no cause is left
pub none : {X : Type 0} → (X → ⊥) → (X ↔ ⊥)
none not = (not, λ never. absurd never)

pub refused_inj : (a b : Fault) → Refused a ≡ Refused b → a ≡ b
refused_inj a b e = ap (λ (x : Reply). elim x as (λ _. Fault) [ Refused y ↦ y | _ ↦ a ]) e

-- the reply has this fault
pub named : (fault other is : Fault) → fault ≡ is → ((Refused fault ≡ Refused other) ↔ (other ≡ is))
named fault other is same = (λ e. sym (refused_inj fault other e) ∙ same, λ e. ap (λ (x : Fault). Refused x) (same ∙ sym e))

-- ---- the cause that a call below had

module _ {D : Type 0} (d : Ghosts D) (v : PageWriter) (old : D) (w : PageWriter) (new : D) where
  -- a search
  pub read_cause : (f : Fault) → Ends d AreLoaded mild v old w new (Some f) → v.failed ≡ false → ReadCause d w.log new (told_as f)
  read_cause Device x works = x.1
  read_cause LogFull x works = x.2
  read_cause Memory x works = tt
  read_cause NotAStore x works = tt
  read_cause Failed x works = absurd (not_true v.failed works x.0)
  read_cause e x works = absurd (let never = x.0 in cc never)

  -- the flush of a page
  pub flush_cause : (f : Fault) → Ends d AsksNothing none_mild v old w new (Some f) → v.failed ≡ false → FlushCause d w.log new (told_as f)
  flush_cause Device x works = x.1
  flush_cause LogFull x works = x.2
  flush_cause Failed x works = absurd (not_true v.failed works x.0)
  flush_cause e x works = absurd (let never = x.0 in cc never)

  -- an insert
  pub insert_cause : (goes_on : Fault → Bool) (f : Fault) → LogEnds d true goes_on v old w new (Some f) → InsertCause d w.log new (told_as f)
  insert_cause goes_on Device x = x.1
  insert_cause goes_on LogFull x = x.2
  insert_cause goes_on e x = tt

  -- a delete
  pub delete_cause : (f : Fault) → LogEnds d true mild v old w new (Some f) → DeleteCause d w.log new (told_as f)
  delete_cause Device x = x.1
  delete_cause LogFull x = x.2
  delete_cause PagesFull x = absurd (let never = x.0 in cc never)
  delete_cause Capacity x = absurd (let never = x.0 in cc never)
  delete_cause e x = tt

  -- a force
  pub force_cause : (f : Fault) → LogEnds d false none_mild v old w new (Some f) → v.failed ≡ false → (f ≡ LogFull → ⊥) → (told_as f ≡ faults.Device) × (d.failed new ≡ true)
  force_cause Device x works room = (refl, x.1)
  force_cause LogFull x works room = absurd (room refl)
  force_cause Failed x works room = absurd (not_true v.failed works x.0)
  force_cause NotAStore x works room = absurd (let never = x.0 in cc never)
  force_cause e x works room = absurd (let never = x.0 in cc never)

  -- a Checkpoint
  pub tables_cause : (f : Fault) → LogEnds d false none_mild v old w new (Some f) → v.failed ≡ false → ((f ≡ LogFull) × (d.failed new ≡ false) × HasNoRoom w.log) ⊎ ((f ≡ Device) × (d.failed new ≡ true))
  tables_cause Device x works = inr (refl, x.1)
  tables_cause LogFull x works = inl (refl, x.1, x.2)
  tables_cause Failed x works = absurd (not_true v.failed works x.0)
  tables_cause NotAStore x works = absurd (let never = x.0 in cc never)
  tables_cause e x works = absurd (let never = x.0 in cc never)

  -- an append
  pub append_cause : (f : Fault) → LogEnds d false none_mild v old w new (Some f) → v.failed ≡ false → ((f ≡ LogFull) × (d.failed new ≡ false)) ⊎ ((f ≡ Device) × (d.failed new ≡ true))
  append_cause Device x works = inr (refl, x.1)
  append_cause LogFull x works = inl (refl, x.1)
  append_cause Failed x works = absurd (not_true v.failed works x.0)
  append_cause NotAStore x works = absurd (let never = x.0 in cc never)
  append_cause e x works = absurd (let never = x.0 in cc never)

-- ---- at the exits of a step

-- as `IsAnswered` has it, by the log and the disk that a step left
abbrev pub Answers : {D : Type 0} (d : Ghosts D) → Engine D d → LogFile → D → answers.Step → Reply → Type 0
Answers d old log disk step reply = (fault : Fault) → (reply ≡ Refused fault) ↔ Checked (check_of d step old) fault (Refuses d reply old log disk fault step)

module _ {D : Type 0} (d : Ghosts D) (old : Engine D d) (log : LogFile) (disk : D) (works : old.failed ≡ false) where
  -- after the checks
  pub behind : (step : answers.Step) (reply : Reply) → checked_by old.txns.rows (owns_in (under_of old.under) step) step ≡ None → ((fault : Fault) → (reply ≡ Refused fault) ↔ Refuses d reply old log disk fault step) → Answers d old log disk step reply
  behind step reply checked h fault =
      let is : check_of d step old ≡ None = ap (λ (b : Bool). first_check b (length old.txns.rows) (mark_for (marks_in old.txns.rows) step) (owns_in (under_of old.under) step) step) works ∙ checked in
      subst (λ (o : Option ℕ). (reply ≡ Refused fault) ↔ Checked o fault (Refuses d reply old log disk fault step)) (sym is) (h fault)

  -- it is refused for a cause of this kind, or not refused
  pub refused_for : (Cause : Fault → Type 0) (f : Fault) (told : Fault) → told ≡ told_as f → Cause (told_as f) → (fault : Fault) → ((Refused told ≡ Refused fault) ↔ IsFor d (Refused told) old log disk fault Cause)
  refused_for Cause f told is cause fault = (λ e. (e, subst Cause (sym is ∙ refused_inj told fault e) cause), λ y. y.0)

  pub not_refused_for : (Cause : Fault → Type 0) (reply : Reply) → ((x : Fault) → reply ≢ Refused x) → (fault : Fault) → ((reply ≡ Refused fault) ↔ IsFor d reply old log disk fault Cause)
  not_refused_for Cause reply not fault = (λ e. absurd (not fault e), λ y. y.0)

-- an access that changes nothing
abbrev pub reads : answers.Access → Bool
reads (answers.Insert key rid) = false
reads (answers.Delete key) = false
reads _ = true

pub seeks_read : (inclusive : Bool) (key : Key) → reads (seek_at inclusive key) ≡ true
seeks_read true key = refl
seeks_read false key = refl

module _ {D : Type 0} (d : Ghosts D) (old : Engine D d) (log : LogFile) (disk : D) (works : old.failed ≡ false) (t : ℕ) where
  reading_is : (a : answers.Access) → reads a ≡ true → (reply : Reply) (fault : Fault) → ((reply ≡ Refused fault) ↔ IsFor d reply old log disk fault (ReadCause d log disk)) → ((reply ≡ Refused fault) ↔ Refuses d reply old log disk fault (answers.Do t a))
  reading_is (answers.Fetch key) is reply fault h = h
  reading_is (answers.Seek key) is reply fault h = h
  reading_is (answers.Next key) is reply fault h = h
  reading_is (answers.Prev key) is reply fault h = h
  reading_is (answers.Scan lo hi limit) is reply fault h = h
  reading_is (answers.Insert key rid) is reply fault h = absurd (cc is)
  reading_is (answers.Delete key) is reply fault h = absurd (cc is)

  module _ (a : answers.Access) (is : reads a ≡ true) (checked : checked_by old.txns.rows (owns_in (under_of old.under) (answers.Do t a)) (answers.Do t a) ≡ None) where
    -- it was answered
    pub read_answered : (reply : Reply) → ((x : Fault) → reply ≢ Refused x) → Answers d old log disk (answers.Do t a) reply
    read_answered reply not = behind d old log disk works (answers.Do t a) reply checked (λ fault. reading_is a is reply fault (not_refused_for d old log disk works (ReadCause d log disk) reply not fault))

    -- a search refused it
    pub read_refused : (f : Fault) (told : Fault) → told ≡ told_as f → ReadCause d log disk (told_as f) → Answers d old log disk (answers.Do t a) (Refused told)
    read_refused f told same cause =
        behind d old log disk works (answers.Do t a) (Refused told) checked (λ fault. reading_is a is (Refused told) fault
        (refused_for d old log disk works (ReadCause d log disk) f told same cause fault))

-- ---- a Begin

module _ {D : Type 0} (d : Ghosts D) (old : Engine D d) (log : LogFile) (disk : D) (works : old.failed ≡ false) (checked : checked_by old.txns.rows false answers.Begin ≡ None) where
  pub begin_made : (reply : Reply) → old.txns.next ≤ 2 ^ 62 → ((x : Fault) → reply ≢ Refused x) → Answers d old log disk answers.Begin reply
  begin_made reply le not = behind d old log disk works answers.Begin reply checked (λ fault. past (λ over. omega (arith, le, over)) (none (not fault)))

  pub begin_full : 2 ^ 62 < old.txns.next → Answers d old log disk answers.Begin (Refused faults.Capacity)
  begin_full over = behind d old log disk works answers.Begin (Refused faults.Capacity) checked (λ fault. here over (named faults.Capacity fault faults.Capacity refl))

-- ---- a Rollback

module _ {D : Type 0} (d : Ghosts D) (old : Engine D d) (log : LogFile) (disk : D) (works : old.failed ≡ false) (t : ℕ) (checked : checked_by old.txns.rows (owns_in (under_of old.under) (answers.Rollback t)) (answers.Rollback t) ≡ None) where
  -- that logs nothing
  pub rollback_made : (reply : Reply) → (IsEmptied (find (is_of t) old.txns.rows) → ⊥) → ((x : Fault) → reply ≢ Refused x) → Answers d old log disk (answers.Rollback t) reply
  rollback_made reply empty not = behind d old log disk works (answers.Rollback t) reply checked (λ fault. past empty (none (not fault)))

  -- that logs an End
  module _ (is_empty : IsEmptied (find (is_of t) old.txns.rows)) where
    pub rollback_ended : (reply : Reply) → (2 ^ 62 < end_with old.writer.log 33 → ⊥) → (d.failed disk ≡ true → ⊥) → ((x : Fault) → reply ≢ Refused x) → Answers d old log disk (answers.Rollback t) reply
    rollback_ended reply fits on not = behind d old log disk works (answers.Rollback t) reply checked (λ fault. here is_empty (past fits (past on (none (not fault)))))

    pub rollback_append : (f : Fault) (told : Fault) → told ≡ told_as f → ((f ≡ LogFull) × (d.failed disk ≡ false)) ⊎ ((f ≡ Device) × (d.failed disk ≡ true)) → (f ≡ LogFull → 2 ^ 62 < end_with old.writer.log 33) → (2 ^ 62 < end_with old.writer.log 33 → f ≡ LogFull)
        → Answers d old log disk (answers.Rollback t) (Refused told)
    rollback_append f told is (inl full) over exact =
        behind d old log disk works (answers.Rollback t) (Refused told) checked (λ fault. here is_empty (here (over full.0) (named told fault faults.LogFull (is ∙ ap told_as full.0))))
    rollback_append f told is (inr lost) over exact =
        behind d old log disk works (answers.Rollback t) (Refused told) checked (λ fault. here is_empty (past (λ wide. let never : Device ≡ LogFull = sym lost.0 ∙ exact wide in cc never)
        (here lost.1 (named told fault faults.Device (is ∙ ap told_as lost.0)))))

-- of a row that has changes, or no record
pub not_emptied : (t : ℕ) (rows : List Transaction) (row : Transaction) → find (is_of t) rows ≡ Some row → (1 ≤ row.changes) ⊎ (row.last ≡ 0) → IsEmptied (find (is_of t) rows) → ⊥
not_emptied t rows row found (inl more) is = let it = subst IsEmptied found is in let zero_is = it.1 in omega (arith, zero_is, more)
not_emptied t rows row found (inr zero_is) is = let it = subst IsEmptied found is in let some = it.0 in omega (arith, zero_is, some)

pub is_emptied : (t : ℕ) (rows : List Transaction) (row : Transaction) → find (is_of t) rows ≡ Some row → 1 ≤ row.last → row.changes ≡ 0 → IsEmptied (find (is_of t) rows)
is_emptied t rows row found some zero_is = subst IsEmptied (sym found) (some, zero_is)

-- ---- a RollTo

module _ {D : Type 0} (d : Ghosts D) (old : Engine D d) (log : LogFile) (disk : D) (works : old.failed ≡ false) (t left : ℕ) (checked : checked_by old.txns.rows (owns_in (under_of old.under) (answers.RollTo t left)) (answers.RollTo t left) ≡ None) where
  -- after the checks it is never refused
  pub return_made : (reply : Reply) → ((x : Fault) → reply ≢ Refused x) → Answers d old log disk (answers.RollTo t left) reply
  return_made reply not = behind d old log disk works (answers.RollTo t left) reply checked (λ fault. none (not fault))

-- ---- a Commit

module _ {D : Type 0} (d : Ghosts D) (old : Engine D d) (log : LogFile) (disk : D) (works : old.failed ≡ false) (t : ℕ) (row : Transaction) (found : find (is_of t) old.txns.rows ≡ Some row) (checked : checked_by old.txns.rows (owns_in (under_of old.under) (answers.Commit t)) (answers.Commit t) ≡ None) where
  pub logged : 1 ≤ row.last → HasLogged (find (is_of t) old.txns.rows)
  logged some = subst (λ (o : Option Transaction). HasLogged o) (sym found) some

  pub unlogged : row.last ≡ 0 → HasLogged (find (is_of t) old.txns.rows) → ⊥
  unlogged zero_is has = let some = subst (λ (o : Option Transaction). HasLogged o) found has in omega (arith, zero_is, some)

  pub has_changed : 1 ≤ row.last → 1 ≤ row.changes → HasChanged (find (is_of t) old.txns.rows)
  has_changed some more = subst (λ (o : Option Transaction). HasChanged o) (sym found) (some, more)

  pub unchanged : (row.last ≡ 0) ⊎ (row.changes ≡ 0) → HasChanged (find (is_of t) old.txns.rows) → ⊥
  unchanged (inl zero_is) has = let both = subst (λ (o : Option Transaction). HasChanged o) found has in let some = both.0 in omega (arith, zero_is, some)
  unchanged (inr zero_is) has = let both = subst (λ (o : Option Transaction). HasChanged o) found has in let more = both.1 in omega (arith, zero_is, more)

  -- of a transaction without records
  pub commit_empty : (reply : Reply) → row.last ≡ 0 → ((x : Fault) → reply ≢ Refused x) → Answers d old log disk (answers.Commit t) reply
  commit_empty reply zero_is not = behind d old log disk works (answers.Commit t) reply checked (λ fault. past (unlogged zero_is) (none (not fault)))

  module _ (some : 1 ≤ row.last) where
    -- one that was made
    pub commit_made : (reply : Reply) → (2 ^ 62 < end_with old.writer.log 33 → ⊥) → (d.failed disk ≡ true → ⊥) → ((x : Fault) → reply ≢ Refused x) → Answers d old log disk (answers.Commit t) reply
    commit_made reply fits on not = behind d old log disk works (answers.Commit t) reply checked (λ fault. here (logged some) (past fits (past on (none (not fault)))))

    -- one whose record was refused
    pub commit_full : (told : Fault) → told ≡ faults.LogFull → 2 ^ 62 < end_with old.writer.log 33 → Answers d old log disk (answers.Commit t) (Refused told)
    commit_full told is over = behind d old log disk works (answers.Commit t) (Refused told) checked (λ fault. here (logged some) (here over (named told fault faults.LogFull is)))

    -- one after which the disk has failed
    pub commit_lost : (told : Fault) → told ≡ faults.Device → (2 ^ 62 < end_with old.writer.log 33 → ⊥) → d.failed disk ≡ true → Answers d old log disk (answers.Commit t) (Refused told)
    commit_lost told is fits broken = behind d old log disk works (answers.Commit t) (Refused told) checked (λ fault. here (logged some) (past fits (here broken (named told fault faults.Device is))))

    -- one whose append was refused
    pub commit_append : (f : Fault) (told : Fault) → told ≡ told_as f → ((f ≡ LogFull) × (d.failed disk ≡ false)) ⊎ ((f ≡ Device) × (d.failed disk ≡ true)) → (f ≡ LogFull → 2 ^ 62 < end_with old.writer.log 33) → (2 ^ 62 < end_with old.writer.log 33 → f ≡ LogFull)
        → Answers d old log disk (answers.Commit t) (Refused told)
    commit_append f told is (inl full) over exact = commit_full told (is ∙ ap told_as full.0) (over full.0)
    commit_append f told is (inr lost) over exact = commit_lost told (is ∙ ap told_as lost.0) (λ wide. let never : Device ≡ LogFull = sym lost.0 ∙ exact wide in cc never) lost.1

-- ---- a force, and a Checkpoint

-- whether the record of a Checkpoint has room for each page that was changed
pub few_or_many : (t : TableView) → FitsRecord t ⊎ (FitsRecord t → ⊥)
few_or_many t = elim (cases_lt 1024 (length (synced_entries t).entries)) [
  | inl more ↦ inr (λ few. omega (arith, few, more))
  | inr few ↦ inl (omega (arith, few))
]

module _ {D : Type 0} (d : Ghosts D) (old : Engine D d) (log : LogFile) (disk : D) where
  pub force_made : (reply : Reply) → (d.failed disk ≡ true → ⊥) → ((x : Fault) → reply ≢ Refused x) → (fault : Fault) → ((reply ≡ Refused fault) ↔ OfForce d reply old log disk fault)
  force_made reply on not fault = past on (none (not fault))

  pub force_lost : (told : Fault) → told ≡ faults.Device → d.failed disk ≡ true → (fault : Fault) → ((Refused told ≡ Refused fault) ↔ OfForce d (Refused told) old log disk fault)
  force_lost told is broken fault = here broken (named told fault faults.Device is)

  -- a Checkpoint that was taken
  pub checkpoint_made : (reply : Reply) → (d.failed disk ≡ true → ⊥) → (FitsRecord old.writer.table → end_with old.writer.log (size_of (checkpoint_of d old)) ≤ 2 ^ 62) → ((x : Fault) → reply ≢ Refused x) → (fault : Fault)
      → ((reply ≡ Refused fault) ↔ Refuses d reply old log disk fault answers.Checkpoint)
  checkpoint_made reply on fits not fault = elim (few_or_many old.writer.table) [
    | inl few ↦ past on (here few (past (λ over. (let under = fits few in omega (arith, under, over))) (none (not fault))))
    | inr many ↦ past on (past many (λ e. absurd (not fault e), λ y. y.0))
  ]

  -- one that was refused
  pub checkpoint_lost : (f : Fault) (told : Fault) → told ≡ told_as f → ((f ≡ LogFull) × (d.failed disk ≡ false) × HasNoRoom log) ⊎ ((f ≡ Device) × (d.failed disk ≡ true)) → (f ≡ LogFull → FitsRecord old.writer.table → 2 ^ 62 < end_with old.writer.log (size_of (checkpoint_of d old))) → (fault : Fault)
      → ((Refused told ≡ Refused fault) ↔ Refuses d (Refused told) old log disk fault answers.Checkpoint)
  checkpoint_lost f told is (inl full) over fault =
      let same : told ≡ faults.LogFull = is ∙ ap told_as full.0 in
      past (not_true (d.failed disk) full.1) (elim (few_or_many old.writer.table) [
        | inl few ↦ here few (here (over full.0 few) (named told fault faults.LogFull same))
        | inr many ↦ past many (λ e. (e, subst (FlushCause d log disk) (sym same ∙ refused_inj told fault e) full.2), λ y. y.0)
      ])
  checkpoint_lost f told is (inr lost) over fault = here lost.1 (named told fault faults.Device (is ∙ ap told_as lost.0))

-- ---- a Switch

module _ {D : Type 0} (d : Ghosts D) (old : Engine D d) (log : LogFile) (disk : D) where
  -- whether a next log may come, before any call
  may_switch : EndsNearTop d old ⊎ (IsLastLog d old × (next_gate old.writer.log + 47 ≤ 2 ^ 62)) ⊎ ((EndsNearTop d old → ⊥) × (IsLastLog d old → ⊥))
  may_switch = elim (cases_lt (2 ^ 62) (next_gate old.writer.log + 47)) [
    | inl over ↦ inl over
    | inr under ↦ elim (cases_lt (generation_at old.writer.log.gate + 1) (2 ^ 62)) [
      | inl more ↦ inr (inr ((λ over. omega (arith, under, over)), (λ last. omega (arith, more, last))))
      | inr last ↦ inr (inl (last, under))
    ]
  ]

  -- none came for which this was so
  pub goes_on : ((e : Fault) → MayNotSwitch old.writer.log e → ⊥) → (EndsNearTop d old → ⊥) × (IsLastLog d old → ⊥)
  goes_on early = elim may_switch [
    | inl over ↦ absurd (early LogFull over)
    | inr (inl last) ↦ absurd (early Capacity (last.1, last.0))
    | inr (inr both) ↦ both
  ]

  -- no call was made where none may come
  pub switch_quiet : ((e : Fault) → MayNotSwitch old.writer.log e → disk ≡ old.disk) → (CallsDevice d answers.Switch old → ⊥) → disk ≡ old.disk
  switch_quiet early idle = elim may_switch [
    | inl over ↦ early LogFull over
    | inr (inl last) ↦ early Capacity (last.1, last.0)
    | inr (inr both) ↦ absurd (idle both)
  ]

  -- the log went on
  pub switch_made : (reply : Reply) → (EndsNearTop d old → ⊥) × (IsLastLog d old → ⊥) → ((x : Fault) → reply ≢ Refused x) → (fault : Fault) → ((reply ≡ Refused fault) ↔ Refuses d reply old log disk fault answers.Switch)
  switch_made reply may not fault = past may.0 (past may.1 (λ e. absurd (not fault e), λ y. y.0))

  -- and where it was refused
  module _ (f : Fault) (told : Fault) (is : told ≡ told_as f) (early : (e : Fault) → MayNotSwitch old.writer.log e → f ≡ e) (last : f ≡ Capacity → MayNotSwitch old.writer.log Capacity) (causes : RefusesSwitch d false log disk f) where
    begun_cause : (IsLastLog d old → ⊥) → (g : Fault) → f ≡ g → RefusesSwitch d false log disk g → SwitchCause d log disk (told_as g)
    begun_cause more Device same cause = cause
    begun_cause more LogFull same cause = cause
    begun_cause more Capacity same cause = absurd (more (last same).1)
    begun_cause more Failed same cause = absurd (not_true false refl cause)
    begun_cause more g same cause = absurd cause

    pub switch_lost : (fault : Fault) → ((Refused told ≡ Refused fault) ↔ Refuses d (Refused told) old log disk fault answers.Switch)
    switch_lost fault = elim may_switch [
      | inl over ↦ here over (named told fault faults.LogFull (is ∙ ap told_as (early LogFull over)))
      | inr (inl top) ↦ past (λ over. (let under = top.1 in omega (arith, under, over))) (here top.0 (named told fault faults.Capacity (is ∙ ap told_as (early Capacity (top.1, top.0)))))
      | inr (inr both) ↦ past both.0 (past both.1 (λ e. (e, subst (SwitchCause d log disk) (sym is ∙ refused_inj told fault e) (begun_cause both.1 f refl causes)), λ y. y.0))
    ]

-- how it ends, where it was refused
module _ {D : Type 0} (d : Ghosts D) (log : LogFile) (disk : D) where
  pub switch_ends : (f : Fault) → RefusesSwitch d false log disk f → true ≡ ends_engine f
  switch_ends PagesFull cause = absurd cause
  switch_ends Memory cause = absurd cause
  switch_ends f cause = refl

  pub switch_breaks : (f : Fault) → RefusesSwitch d false log disk f → Breaks (number_of (told_as f))
  switch_breaks Capacity cause = inl refl
  switch_breaks LogFull cause = inr (inl refl)
  switch_breaks Device cause = inr (inr (inl refl))
  switch_breaks Failed cause = absurd (not_true false refl cause)
  switch_breaks f cause = absurd cause
