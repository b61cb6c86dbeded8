-- Steps that calls of the writer refuse.
use Rattle.std.proofs.Common.{◌≡◌, ◌≢◌, inl, inr, ℕ, ◌≤◌, List, true, false, Some, None, refl, sym, subst, ◌∙◌}
use Rattle.im_base_types.specs.Answers.{Step, Begin, Do, Commit, Rollback, Continue, RollTo, FlushPage, Force, Checkpoint, Switch, Refused}
use Rattle.im_base_types.specs.Changes.{Effect}
use Rattle.im_theory_log.specs.Histories.{Base, History}
use Rattle.im_base_types.specs.Refusals.{memory}
use Rattle.im_base_types.specs.declared.fault.Fault.{Fault}
use Rattle.im_base_types.specs.declared.fault.Fault.TheVariants.{Failed, LogFull, Device, Memory, NotAStore}
use Rattle.im_base_types.specs.Lives.{Shown, shows}
use Rattle.im_base_disk.specs.declared.disk.Disk.{Ghosts}
use Rattle.im_base_disk.specs.Disk.{Files}
use Rattle.im_base_disk.specs.Runs.{LeavesOnly}
use Rattle.im_log.proofs.Above.{left_now}
use Rattle.im_engine_access.specs.LockCalls.{AsksLocks}
use Rattle.im_page_writer.specs.PageWriter.{Evicted}
use Rattle.im_page_writer.specs.Outcome.{AreLoaded, mild, Ends}
use Rattle.im_base_types.specs.Faults.{number_of}
use Rattle.im_theory_machine.specs.Table.{Table, SameTable, SameLasting, locks_of}
use Rattle.im_theory_machine.specs.Locks.{Lock, SameLocks}
use Rattle.im_theory_machine.specs.View.{View, locks_in}
use Rattle.im_theory_machine.specs.Machine.{Breaks, Wants, barred}
use Rattle.im_theory_steps.specs.Serving.{IsServing}
use Rattle.im_theory_steps.proofs.Cited.{refusals_ask_nothing, others_ask_nothing, lacks_served}
use Rattle.im_engine.specs.declared.engine.Engine.{Engine}
use Rattle.im_engine.specs.Faults.{told_as, ends_engine}
use Rattle.im_engine.specs.Stands.{Allowed}
use Rattle.im_engine.specs.Running.{IsRunning, IsLife}
use Rattle.im_engine.specs.Kept.{StepKept, IsDone}
use Rattle.im_engine.proofs.Running.{allowed_as, tells, read_on, read_stops}
use Rattle.im_engine.proofs.Made.{grown_made, leaves_as, step_broke}
use Rattle.im_engine.proofs.Looked.{not_true}

-- nothing was done
pub none_done : {D : Type 0} (d : Ghosts D) (before : List Effect) (s : Shown) (v : View) (step : Step) (n : ℕ) (e : Engine D d) → IsDone d before s v step (Refused n) e
none_done d before s v Begin n e = tt
none_done d before s v (Do t a) n e = tt
none_done d before s v (Commit t) n e = tt
none_done d before s v (Rollback t) n e = tt
none_done d before s v (Continue t) n e = tt
none_done d before s v (RollTo t left) n e = tt
none_done d before s v (FlushPage p) n e = tt
none_done d before s v Force n e = tt
none_done d before s v Checkpoint n e = tt
none_done d before s v Switch n e = tt

-- everybody holds the same locks, and the same ones last
abbrev pub KeepsLocks : Table → Table → Type 0
KeepsLocks old new = SameTable old new × SameLasting old new

-- another table with the same locks
pub serving_with : (b : Base) (earlier before : List Effect) (s : Shown) (v : View) (log : History) (rows : List _) (next : ℕ) (old new : Table) → KeepsLocks old new → IsServing b earlier before s v log rows next old → IsServing b earlier before s v log rows next new
serving_with b earlier before s v log rows next old new same is = record {
  made = is.made;
  works = is.works;
  seen_by = is.seen_by;
  shows = is.shows;
  reached = is.reached;
  says = is.says;
  table = is.table;
  locks = record {
    lasting = λ u. is.locks.lasting u ∙ sym (same.1 u);
    held = λ u. subst (λ (ls : List Lock). SameLocks (locks_in v u) ls) (sym (same.0 u)) (is.locks.held u);
  };
}

module _ {D : Type 0} (d : Ghosts D) (before : List Effect) (s : Shown) (v : View) (step : Step) (other : (u : ℕ) → step ≡ Commit u → ⊥) (checked : barred v step ≡ None) (old new : Engine D d) (life : IsLife d before s v old)
    (works : old.failed ≡ false) (counts_now : (t : ℕ) (c : Files) → t ≤ d.moment new.disk → d.may_leave new.disk c → d.left_since new.disk t c) where
  abbrev run : (b : Base) × IsRunning d b before s v old
  run = life.running works

  -- one that breaks the engine
  pub breaks_with : (fault : ℕ) → Breaks fault → new.failed ≡ true → LeavesOnly d old.disk new.disk (Allowed before s) → StepKept d before s v step (Refused fault) old new
  breaks_with fault is fails leaves =
      step_broke d before s v step fault old new (locks_of new.locks) life checked is fails
      (leaves_as d before s (shows s step None) old.disk new.disk (others_ask_nothing.cut s step other) leaves)
      (λ c left. allowed_as before s (shows s step (Some (Refused fault))) c (refusals_ask_nothing fault step s (λ t is. absurd (other t is)))
      (left_now d old.disk new.disk (Allowed before s) counts_now leaves (tells d before s v old run.1) c left))
      (none_done d before (shows s step (Some (Refused fault))) _ step fault new)

  -- one for which memory was wanting
  pub lacks_with : Wants step memory → Evicted d run.0 run.1.base run.1.now old.disk new.writer new.disk → LeavesOnly d old.disk new.disk (Allowed before s) → new.txns ≡ old.txns → KeepsLocks old.locks new.locks → new.failed ≡ false → new.under ≡ old.under
      → StepKept d before s v step (Refused memory) old new
  lacks_with wants is leaves table same works_on stays =
      grown_made d before s v v step (Refused memory) old new run.1 old.txns refl is
      (λ longer stays all. lacks_served run.0 run.1.earlier before s v run.1.now.log longer old.txns.rows old.txns.next new.locks step memory
      (serving_with run.0 run.1.earlier before s v run.1.now.log old.txns.rows old.txns.next old.locks new.locks same run.1.serving) checked wants stays all)
      (refusals_ask_nothing memory step s (λ t is. inl refl)) (others_ask_nothing.cut s step other) table refl leaves works_on (none_done d before (shows s step (Some (Refused memory))) v step memory new) (λ longer images. images) stays

  -- one that a search refuses
  pub search_refused : (f : Fault) → Wants step memory → AsksLocks d old.writer old.disk new.writer new.disk (Some f) → f ≢ NotAStore → new.failed ≡ ends_engine f → new.txns ≡ old.txns → KeepsLocks old.locks new.locks → new.under ≡ old.under
      → StepKept d before s v step (Refused (number_of (told_as f))) old new
  search_refused f wants one sound fails table same stays = by f one.ends sound fails
    where
      leaves : LeavesOnly d old.disk new.disk (Allowed before s)
      leaves = read_stops d before s v old run.1 new.writer new.disk one

      by : (g : Fault) → Ends d AreLoaded mild old.writer old.disk new.writer new.disk (Some g) → g ≢ NotAStore → new.failed ≡ ends_engine g → StepKept d before s v step (Refused (number_of (told_as g))) old new
      by Memory x other_than on = lacks_with wants (read_on d before s v old run.1 new.writer new.disk x.1) leaves table same on stays
      by LogFull x other_than on = breaks_with 7 (inr (inl refl)) on leaves
      by Device x other_than on = breaks_with 8 (inr (inr (inl refl))) on leaves
      by Failed x other_than on = absurd (not_true old.writer.failed (old.working works) x.0)
      by NotAStore x other_than on = absurd (other_than refl)
      by g x other_than on = absurd (let never = x.0 in cc never)
