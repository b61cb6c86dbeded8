-- Accesses that change nothing.
use Rattle.std.proofs.Common.{◌≡◌, ◌≢◌, inl, ℕ, ◌≤◌, List, [], Bool, true, false, Some, None, refl, sym, subst, ◌∙◌}
use Rattle.std.specs.Prelude.{map}
use Rattle.im_base_types.specs.Answers as answers
use Rattle.im_base_types.specs.Answers.{Access, Do, Commit, Reply, Refused, Blocked, Die, answer, changes}
use Rattle.im_base_types.specs.Changes.{Effect}
use Rattle.im_theory_log.specs.Histories.{Base}
use Rattle.im_base_types.specs.Refusals.{memory}
use Rattle.im_base_types.specs.declared.fault.Fault.{Fault}
use Rattle.im_base_types.specs.declared.fault.Fault.TheVariants.{NotAStore}
use Rattle.im_base_types.specs.Lives.{Shown}
use Rattle.im_base_disk.specs.declared.disk.Disk.{Ghosts}
use Rattle.im_base_disk.specs.Disk.{Files}
use Rattle.im_base_types.specs.Faults.{number_of}
use Rattle.im_engine_access.specs.declared.lock_answer.LockAnswer.{LockAnswer}
use Rattle.im_engine_access.specs.declared.lock_answer.LockAnswer.TheVariants.{Granted as AnswerGranted, Wait as AnswerWait, Die as AnswerDie}
use Rattle.im_engine_access.specs.LockAnswers.{seek_at}
use Rattle.im_engine_access.specs.LockCalls.{AsksLocks}
use Rattle.im_engine_access.specs.Reads.{IsRead}
use Rattle.im_base_types.specs.Keys.{Key}
use Rattle.im_base_types.specs.Maps.{IndexMap}
use Rattle.im_base_txn.specs.Rows.{changed, with_mark}
use Rattle.im_base_txn.specs.declared.transaction.Mark.TheVariants.{MustRollBack}
use Rattle.im_page_table.specs.DirtyTable.{FitsRecord}
use Rattle.im_theory_machine.specs.Rows.{asked}
use Rattle.im_theory_machine.specs.Table.{Decides, lasting_of}
use Rattle.im_theory_machine.specs.declared.verdict.Verdict.TheVariants.{Wait, Die as MustDie}
use Rattle.im_theory_machine.specs.View.{View, did, marked, owner_in, owns_in, pending_of}
use Rattle.im_theory_machine.specs.Machine.{Wants}
use Rattle.im_theory_steps.specs.Checks.{checked_by}
use Rattle.im_theory_steps.proofs.Cited.{asks_nothing, waits_ask_nothing, dies_ask_nothing, reads_served, waits_served, dies_served}
use Rattle.im_engine.specs.declared.engine.Engine.{Engine}
use Rattle.im_engine.specs.Faults.{told_as, ends_engine}
use Rattle.im_engine.specs.Running.{IsRunning, IsLife}
use Rattle.im_engine.specs.Kept.{StepKept}
use Rattle.im_engine.specs.Aims.{under_of}
use Rattle.im_engine.proofs.Checked.{IsGoing, access_going, access_fits, access_unowned}
use Rattle.im_engine.proofs.Running.{none_if, not_owner, checks_tell, read_on, read_stops}
use Rattle.im_engine.proofs.Grown.{read_grows}
use Rattle.im_engine.proofs.Made.{grown_made}
use Rattle.im_engine.proofs.Refused.{KeepsLocks, search_refused}

-- a search from a key on, or from above it
pub seeks_change_nothing : (inclusive : Bool) (key : Key) (m : IndexMap) → changes (seek_at inclusive key) m ≡ []
seeks_change_nothing true key m = refl
seeks_change_nothing false key m = refl

pub seeks_want_memory : (t : ℕ) (inclusive : Bool) (key : Key) → Wants (Do t (seek_at inclusive key)) memory
seeks_want_memory t true key = refl
seeks_want_memory t false key = refl

module _ {D : Type 0} (d : Ghosts D) (before : List Effect) (s : Shown) (v : View) (t : ℕ) (a : Access) (old new : Engine D d) (life : IsLife d before s v old) (works : old.failed ≡ false) (checked : checked_by old.txns.rows (owns_in (under_of old.under) (Do t a)) (Do t a) ≡ None) where
  abbrev run : (b : Base) × IsRunning d b before s v old
  run = life.running works

  going : IsGoing old.txns.rows t
  going = access_going old.txns.rows _ t a checked

  -- who has no structure change under way
  free : owner_in v ≢ Some t
  free =
      not_owner d before s v old run.1 t going.row going.found (inl going.mark)
      (none_if (pending_of (under_of old.under) t) (access_unowned old.txns.rows t a checked))

  no_commit : (u : ℕ) → Do t a ≡ Commit u → ⊥
  no_commit u is = cc is

  -- granted, with its answer
  pub granted : changes a v.walk ≡ [] → {X : Type 0} (says : X → Reply) (o : LockAnswer X) → IsRead says t a v.walk old.locks new.locks o → (x : X) → o ≡ AnswerGranted x → (reply : Reply) → says x ≡ reply
      → AsksLocks d old.writer old.disk new.writer new.disk None → new.txns ≡ old.txns → new.failed ≡ false → new.under ≡ old.under → StepKept d before s v (Do t a) reply old new
  granted none {X} says o read x is reply told one table works_on stays =
      let now = subst (λ (y : LockAnswer X). IsRead says t a v.walk old.locks new.locks y) is read in
      subst (λ (y : Reply). StepKept d before s v (Do t a) y old new) (sym now.says ∙ told)
      (grown_made d before s v (did v t a (lasting_of new.locks t)) (Do t a) (answer a v.walk) old new run.1 old.txns refl (read_on d before s v old run.1 new.writer new.disk one.ends)
      (λ longer stays all. reads_served run.0 run.1.earlier before s v run.1.now.log longer old.txns.rows old.txns.next old.locks new.locks t going.row a run.1.serving going.found going.mark free (access_fits old.txns.rows _ t a checked) none now.decides stays all)
      (asks_nothing s t a v) refl table refl (read_stops d before s v old run.1 new.writer new.disk one) works_on tt (λ longer images. read_grows (FitsRecord old.writer.table) (under_of old.under) (under_of new.under) run.0 t run.1.now.log longer images a v.walk none) stays)

  -- it has to wait
  pub waits : {X : Type 0} (says : X → Reply) (o : LockAnswer X) → IsRead says t a v.walk old.locks new.locks o → (holder : ℕ) → o ≡ AnswerWait holder → AsksLocks d old.writer old.disk new.writer new.disk None → new.txns ≡ old.txns → new.failed ≡ false → new.under ≡ old.under
      → StepKept d before s v (Do t a) (Blocked holder) old new
  waits {X} says o read holder is one table works_on stays =
      let decides : Decides old.locks t (asked a v.walk) (Wait holder) new.locks = (subst (λ (y : LockAnswer X). IsRead says t a v.walk old.locks new.locks y) is read).decides in
      grown_made d before s v v (Do t a) (Blocked holder) old new run.1 old.txns refl (read_on d before s v old run.1 new.writer new.disk one.ends)
      (λ longer stays all. waits_served run.0 run.1.earlier before s v run.1.now.log longer old.txns.rows old.txns.next old.locks new.locks t holder going.row a run.1.serving going.found going.mark free (access_fits old.txns.rows _ t a checked) decides stays all)
      (waits_ask_nothing s t holder a) refl table refl (read_stops d before s v old run.1 new.writer new.disk one) works_on tt (λ longer images. images) stays

  -- its transaction must die
  pub dies : {X : Type 0} (says : X → Reply) (o : LockAnswer X) → IsRead says t a v.walk old.locks new.locks o → o ≡ AnswerDie → AsksLocks d old.writer old.disk new.writer new.disk None → new.txns ≡ record old.txns { rows = map (changed t (with_mark MustRollBack)) old.txns.rows } → new.failed ≡ false → new.under ≡ old.under
      → StepKept d before s v (Do t a) Die old new
  dies {X} says o read is one table works_on stays =
      let decides : Decides old.locks t (asked a v.walk) MustDie new.locks = (subst (λ (y : LockAnswer X). IsRead says t a v.walk old.locks new.locks y) is read).decides in
      grown_made d before s v (marked v t answers.MustRollBack) (Do t a) Die old new run.1 (record old.txns { rows = map (changed t (with_mark MustRollBack)) old.txns.rows }) refl (read_on d before s v old run.1 new.writer new.disk one.ends)
      (λ longer stays all. dies_served run.0 run.1.earlier before s v run.1.now.log longer old.txns.rows old.txns.next old.locks new.locks t going.row a run.1.serving going.found going.mark free (access_fits old.txns.rows _ t a checked) decides stays all)
      (dies_ask_nothing s t a) refl table refl (read_stops d before s v old run.1 new.writer new.disk one) works_on tt (λ longer images. images) stays

  -- a call below refused it
  pub refused : ((u : ℕ) (c : Files) → u ≤ d.moment new.disk → d.may_leave new.disk c → d.left_since new.disk u c) → (f : Fault) → Wants (Do t a) memory → AsksLocks d old.writer old.disk new.writer new.disk (Some f) → f ≢ NotAStore → new.failed ≡ ends_engine f
      → new.txns ≡ old.txns → KeepsLocks old.locks new.locks → (told : Fault) → told ≡ told_as f → new.under ≡ old.under → StepKept d before s v (Do t a) (Refused (number_of told)) old new
  refused counts_now f wants one sound fails table same told is stays =
      subst (λ (y : Fault). StepKept d before s v (Do t a) (Refused (number_of y)) old new) (sym is) (search_refused d before s v (Do t a) no_commit
      (checks_tell d before s v old run.1 (Do t a) ∙ checked) old new life works counts_now f wants one sound fails table same stays)
