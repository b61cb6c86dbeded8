-- A delete of a key, from how the call below ended.
use Rattle.std.proofs.Common.{◌≡◌, ◌≢◌, inl, inr, ⊎_elim, ℕ, ◌≤◌, List, true, false, cond, is_some, Option, Some, None, Result, Ok, Err, map, refl, sym, ap, subst, ◌∙◌, Bool}
use Rattle.std.specs.Prelude.{find}
use Rattle.std.specs.FinMap.{get}
use Rattle.im_base_types.specs.Answers as answers
use Rattle.im_base_types.specs.Answers.{Delete, Do, Refused, dropped}
use Rattle.im_base_types.specs.Changes.{Effect}
use Rattle.im_theory_log.specs.Histories.{Base}
use Rattle.im_base_types.specs.Keys.{Key}
use Rattle.im_base_types.specs.Lives.{Shown}
use Rattle.im_base_types.specs.Maps.{IndexMap}
use Rattle.im_theory_log.specs.Structure.{settled}
use Rattle.im_theory_log.specs.Writer.{Writer}
use Rattle.im_base_types.specs.declared.fault.Fault.{Fault}
use Rattle.im_base_types.specs.declared.fault.Fault.TheVariants.{Failed, Memory}
use Rattle.im_base_disk.specs.declared.disk.Disk.{Ghosts}
use Rattle.im_base_disk.specs.Disk.{Files}
use Rattle.im_page_writer.specs.declared.page_writer.PageWriter.{PageWriter}
use Rattle.im_page_writer.specs.Outcome.{LogEnds, mild}
use Rattle.im_page_writer.specs.PageWriter.{Evicted}
use Rattle.im_theory_tree.specs.Levels.{Pages}
use Rattle.im_base_txn.specs.declared.transaction.Mark.TheVariants.{Going, MustRollBack}
use Rattle.im_base_txn.specs.declared.transaction.Transaction.{Transaction}
use Rattle.im_base_txn.specs.Rows.{is_of, changed, with_mark}
use Rattle.im_base_txn.proofs.LookUps.{look_ups_follow}
use Rattle.im_theory_machine.specs.Locks.{IsFree, Lock}
use Rattle.im_theory_machine.specs.Rows.{asked}
use Rattle.im_theory_machine.specs.Table.{Table, locks_of}
use Rattle.im_theory_machine.specs.View.{View, owns_in}
use Rattle.im_theory_machine.specs.Machine.{keys_fit}
use Rattle.im_base_types.specs.declared.fault.Fault.TheVariants as faults
use Rattle.im_base_steps.specs.declared.reply.Reply.TheVariants as replies
use Rattle.im_base_types.specs.Faults.{number_of}
use Rattle.im_theory_steps.specs.Checks.{checked_by}
use Rattle.im_engine_access.specs.declared.noted.Noted.{Noted}
use Rattle.im_engine_access.specs.declared.lock_answer.LockAnswer.{LockAnswer}
use Rattle.im_engine_access.specs.declared.lock_answer.LockAnswer.TheVariants.{Granted, Wait, Die}
use Rattle.im_engine_access.specs.Edits.{MayEdit, DeleteKept, HasOne}
use Rattle.im_engine.specs.declared.engine.Engine.{Engine}
use Rattle.im_engine.specs.Faults.{told_as, ends_engine}
use Rattle.im_engine.specs.Running.{IsRunning, IsLife}
use Rattle.im_engine.specs.Kept.{StepKept}
use Rattle.im_engine.specs.Told.{DeleteFails, DeleteWants}
use Rattle.im_engine.proofs.Numbers.{with_taken}
use Rattle.im_engine.proofs.Causes.{refused_inj}
use Rattle.im_engine.proofs.Checked.{access_fits, access_going}
use Rattle.im_base_steps.specs.declared.reply.Reply as said
use Rattle.im_engine.specs.Aims.{under_of}
use Rattle.im_engine.proofs.Running.{bodies_are, nobody_owner}
use Rattle.im_engine.proofs.Refused.{KeepsLocks}
use Rattle.im_engine.proofs.Edited.{blocked, deleted, died, edit_refused, edit_stops, failed_as, may_edit, unchanged}

-- a delete that is not refused, by a store that makes each structure change within a step
pub no_wants : (stepped : Bool) → stepped ≡ false → (pages : Pages) (m : IndexMap) (Idle : Type 0) (locks : ℕ → List Lock) (t : ℕ) (key : Key) (reply : said.Reply) → reply ≢ replies.Refused faults.Failed → reply ≢ replies.More → DeleteWants pages m Idle stepped locks t key reply
no_wants stepped plain pages m Idle locks t key reply not no_more = record { fails = λ is. absurd (not is); at_once = λ _ _. plain; begun = λ is. absurd (no_more is) }

-- the row that was found is the row of the step
pub access_mark : (rows : List Transaction) (owns : Bool) (t : ℕ) (a : answers.Access) (row : Transaction) → find (is_of t) rows ≡ Some row → checked_by rows owns (Do t a) ≡ None → row.mark ≡ Going
access_mark rows owns t a row found checked =
    let going = access_going rows _ t a checked in
    let both : Some going.row ≡ Some row = sym going.found ∙ found in
    let same : going.row ≡ row = cc both in
    subst (λ (x : Transaction). x.mark ≡ Going) same going.mark

module _ {D : Type 0} (d : Ghosts D) (old : Engine D d) (t : ℕ) (key : Key) (row : Transaction) (found : find (is_of t) old.txns.rows ≡ Some row) (checked : checked_by old.txns.rows (owns_in (under_of old.under) (Do t (Delete key))) (Do t (Delete key)) ≡ None) (plain : old.under ≡ None) where
  mark : row.mark ≡ Going
  mark = access_mark old.txns.rows _ t (Delete key) row found checked

  number : row.number ≡ t
  number = look_ups_follow.found t old.txns.rows row found

  fits : keys_fit (Delete key) ≡ true
  fits = access_fits old.txns.rows _ t (Delete key) checked

  module _ (locks : Table) (w : PageWriter) (disk : D) where
    -- what the call below kept, whatever it stood on
    abbrev pub Below : Result (LockAnswer (Option Noted)) Fault → Type 0
    Below result = (b : Base) (base : ℕ) (s : Writer) (e : ℕ) → MayEdit d b base s e row.number row.last row.undo_next (Delete key) old.locks old.writer old.disk → DeleteKept d b base s e row.number row.last key old.locks locks old.disk w disk result

    module _ {b : Base} (before : List Effect) (s : Shown) (v : View) (r : IsRunning d b before s v old) where
      abbrev pub Here : Result (LockAnswer (Option Noted)) Fault → Type 0
      Here result = DeleteKept d b r.base r.now r.redo_end t row.last key old.locks locks old.disk w disk result

      pub kept_here : (result : Result (LockAnswer (Option Noted)) Fault) → Below result → Here result
      kept_here result below =
          subst (λ (n : ℕ). DeleteKept d b r.base r.now r.redo_end n row.last key old.locks locks old.disk w disk result) number
          (below b r.base r.now r.redo_end (subst (λ (n : ℕ). MayEdit d b r.base r.now r.redo_end n row.last row.undo_next (Delete key) old.locks old.writer old.disk) (sym number) (may_edit d before s v old r t row found mark (nobody_owner d before s v old r plain t) plain (Delete key))))

      -- it fails late only where the key is there, with its locks granted
      delete_fails : (f : Fault) → Below (Err f) → LogEnds d true mild old.writer old.disk w disk (Some f) → (told : Fault) → told ≡ told_as f → replies.Refused told ≡ replies.Refused faults.Failed
          → DeleteFails (settled b r.now.log) v.walk (Evicted d b r.base r.now old.disk w disk) (locks_of old.locks) t key
      delete_fails f below ends told is failed =
          let late : f ≡ Failed = failed_as d old.writer old.disk w disk f ends (sym is ∙ refused_inj told faults.Failed failed) in
          let begun = (kept_here (Err f) below).begun late in
          record {
            there = subst (λ (m : IndexMap). get m key ≢ None) (sym r.serving.seen_by.walk) begun.0;
            granted = subst (λ (m : IndexMap). IsFree (locks_of old.locks) t (asked (Delete key) m)) (sym r.serving.seen_by.walk) begun.1.0;
            broken = ⊎_elim (λ one. inl (subst (λ (pages : Pages). HasOne pages key) (bodies_are d before s v old r plain) one)) (λ idle. inr idle) begun.2;
          }

      pub delete_wants : old.stepped ≡ false → (f : Fault) → Below (Err f) → LogEnds d true mild old.writer old.disk w disk (Some f) → (told : Fault) → told ≡ told_as f
          → DeleteWants (settled b r.now.log) v.walk (Evicted d b r.base r.now old.disk w disk) old.stepped (locks_of old.locks) t key (replies.Refused told)
      delete_wants at_once f below ends told is = record { fails = delete_fails f below ends told is; at_once = λ clash. absurd (cc clash); begun = λ clash. absurd (cc clash) }

  module _ (new : Engine D d) (stays : new.under ≡ old.under) where
    abbrev Of : Result (LockAnswer (Option Noted)) Fault → Type 0
    Of result = Below new.locks new.writer new.disk result

    module _ {b : Base} (before : List Effect) (s : Shown) (v : View) (r : IsRunning d b before s v old) where
      abbrev At : Result (LockAnswer (Option Noted)) Fault → Type 0
      At result = Here new.locks new.writer new.disk before s v r result

      at : (result : Result (LockAnswer (Option Noted)) Fault) → Of result → At result
      at result below = kept_here new.locks new.writer new.disk before s v r result below

      -- it was made
      pub delete_made : (o : LockAnswer (Option Noted)) → Of (Ok o) → (x : Option Noted) → o ≡ Granted x → (taken : Noted) → x ≡ Some taken → new.txns ≡ record old.txns { rows = map (changed t (with_taken taken.last taken.undo_next)) old.txns.rows } → new.failed ≡ false
          → StepKept d before s v (Do t (Delete key)) answers.Deleted old new
      delete_made o below x granted taken some table works_on =
          let kept = subst (λ (y : LockAnswer (Option Noted)). At (Ok y)) (granted ∙ ap Granted some) (at (Ok o) below) in
          deleted d before s v old r t row found mark (nobody_owner d before s v old r plain t) key new fits taken kept.sound.1 kept.sound.0 plain stays table kept.stops works_on

      -- the key is not there
      pub delete_absent : (o : LockAnswer (Option Noted)) → Of (Ok o) → (x : Option Noted) → o ≡ Granted x → x ≡ None → new.txns ≡ old.txns → new.failed ≡ false → StepKept d before s v (Do t (Delete key)) answers.Absent old new
      delete_absent o below x granted none table works_on =
          let kept = subst (λ (y : LockAnswer (Option Noted)). At (Ok y)) (granted ∙ ap Granted none) (at (Ok o) below) in
          unchanged d before s v old r t row found mark (nobody_owner d before s v old r plain t) (Delete key) new kept.stops fits stays (ap (dropped key) kept.sound.1.0) kept.sound.0 kept.sound.1.1 answers.Absent (ap (λ (y : Option ℕ). cond (is_some y) answers.Deleted answers.Absent) kept.sound.1.0) table works_on

      -- it has to wait, or its transaction must die
      pub delete_waits : (o : LockAnswer (Option Noted)) → Of (Ok o) → (holder : ℕ) → o ≡ Wait holder → new.txns ≡ old.txns → new.failed ≡ false → StepKept d before s v (Do t (Delete key)) (answers.Blocked holder) old new
      delete_waits o below holder is table works_on =
          let kept = subst (λ (y : LockAnswer (Option Noted)). At (Ok y)) is (at (Ok o) below) in
          blocked d before s v old r t row found mark (nobody_owner d before s v old r plain t) (Delete key) new kept.stops fits stays holder kept.sound.0 kept.sound.1 table works_on

      pub delete_dies : (o : LockAnswer (Option Noted)) → Of (Ok o) → o ≡ Die → new.txns ≡ record old.txns { rows = map (changed t (with_mark MustRollBack)) old.txns.rows } → new.failed ≡ false → StepKept d before s v (Do t (Delete key)) answers.Die old new
      delete_dies o below is table works_on =
          let kept = subst (λ (y : LockAnswer (Option Noted)). At (Ok y)) is (at (Ok o) below) in
          died d before s v old r t row found mark (nobody_owner d before s v old r plain t) (Delete key) new kept.stops fits stays kept.sound.0 kept.sound.1 table works_on

    -- a call below refused it
    pub delete_refused : (before : List Effect) (s : Shown) (v : View) (life : IsLife d before s v old) (works : old.failed ≡ false) → ((u : ℕ) (c : Files) → u ≤ d.moment new.disk → d.may_leave new.disk c → d.left_since new.disk u c) → (f : Fault) → Of (Err f)
        → LogEnds d true mild old.writer old.disk new.writer new.disk (Some f) → new.failed ≡ ends_engine f → new.txns ≡ old.txns → (f ≡ Memory → KeepsLocks old.locks new.locks) → (told : Fault) → told ≡ told_as f
        → StepKept d before s v (Do t (Delete key)) (Refused (number_of told)) old new
    delete_refused before s v life works counts_now f below ends fails table same told is =
        let r = (life.running works).1 in
        let kept = at before s v r (Err f) below in
        edit_refused d before s v t (Delete key) old new life works checked counts_now f refl ends (edit_stops d before s v old r t row found mark (nobody_owner d before s v old r plain t) new.disk kept.stops) kept.sound fails table same told is stays
