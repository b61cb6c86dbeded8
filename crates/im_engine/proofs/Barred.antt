-- Steps that a check bars, and steps of an engine that has failed.
use Rattle.std.proofs.Common.{◌≡◌, inl, inr, ℕ, List, [], Bool, true, false, Some, None, length, refl, sym, ap, subst, ◌∙◌, is_some}
use Rattle.std.specs.Prelude.{◌||◌, ◌==◌, if◌then◌else◌}
use Rattle.std.specs.FinMap.{empty}
use Rattle.im_base_types.specs.Answers as answers
use Rattle.im_base_types.specs.Answers.{Step, Begin, Do, Commit, Rollback, Continue, RollTo, FlushPage, Force, Checkpoint, Switch, Refused, Mark}
use Rattle.im_base_types.specs.Changes.{Effect, apply_all}
use Rattle.im_base_types.specs.Refusals.{memory, unfinished, failed as has_failed}
use Rattle.im_base_types.specs.Lives.{Asked, Shown, asks, breaks, shows}
use Rattle.im_base_disk.specs.declared.disk.Disk.{Ghosts}
use Rattle.im_base_disk.specs.Disk.{Files}
use Rattle.im_base_disk.specs.Runs.{LeavesOnly}
use Rattle.im_base_disk.proofs.Runs.{started}
use Rattle.im_page_writer.proofs.Writers.{goes_on_start}
use Rattle.im_theory_machine.specs.View.{View, pending_of, owns_in}
use Rattle.im_theory_machine.specs.Machine.{Wants, barred, first_check, mark_for}
use Rattle.im_theory_steps.specs.Checks.{marks_in}
use Rattle.im_theory_steps.specs.Durable.{AreCommitted}
use Rattle.im_theory_steps.proofs.Cited.{going_free, images_change_nothing, is_shown_so, lacks_served, refusals_ask_nothing, lives_go_on, barred_served}
use Rattle.im_engine.specs.declared.engine.Engine.{Engine}
use Rattle.im_engine.specs.Stands.{Allowed}
use Rattle.im_engine.specs.Running.{IsLife}
use Rattle.im_engine.specs.Kept.{StepKept}
use Rattle.im_engine.specs.Aims.{under_of}
use Rattle.im_engine.proofs.Running.{allowed_as, runs_on, checks_tell}
use Rattle.im_base_two_logs.proofs.Runs.{unnamed}
use Rattle.im_engine.proofs.Named.{allowed_nameless}
use Rattle.im_engine.proofs.Made.{step_made}
use Rattle.im_engine.proofs.Refused.{none_done}
use Rattle.im_engine.proofs.Ending.{cut_leaves}
use Rattle.im_page_table.proofs.Growing.{grows_none as no_images}

-- a stop within any step may leave what it might leave before
pub cut_any : {D : Type 0} (d : Ghosts D) (before : List Effect) (s : Shown) (step : Step) (old new : D) → LeavesOnly d old new (Allowed before s) → LeavesOnly d old new (Allowed before (shows s step None))
cut_any d before s Begin old new leaves = leaves
cut_any d before s (Do t a) old new leaves = leaves
cut_any d before s (Commit t) old new leaves = cut_leaves d before s t old new leaves
cut_any d before s (Rollback t) old new leaves = leaves
cut_any d before s (Continue t) old new leaves = leaves
cut_any d before s (RollTo t left) old new leaves = leaves
cut_any d before s (FlushPage p) old new leaves = leaves
cut_any d before s Force old new leaves = leaves
cut_any d before s Checkpoint old new leaves = leaves
cut_any d before s Switch old new leaves = leaves

-- an engine that has failed asks nothing
failed_asks : (s : Shown) (step : Step) → s.failed ≡ true → (shows s step (Some (Refused has_failed))).asked ≡ s.asked
failed_asks s Begin is = refl
failed_asks s (Do t a) is = refl
failed_asks s (Commit t) is = ap (λ (b : Bool). (if b || has_failed == memory || has_failed == unfinished then s else record (asks t false s) { failed = breaks has_failed }).asked) is
failed_asks s (Rollback t) is = refl
failed_asks s (Continue t) is = refl
failed_asks s (RollTo t left) is = refl
failed_asks s (FlushPage p) is = refl
failed_asks s Force is = refl
failed_asks s Checkpoint is = refl
failed_asks s Switch is = refl

pub first_failed : (active : ℕ) (mark : Mark) (owns : Bool) (step : Step) → first_check true active mark owns step ≡ Some has_failed
first_failed active mark owns Begin = refl
first_failed active mark owns (Do t a) = refl
first_failed active mark owns (Commit t) = refl
first_failed active mark owns (Rollback t) = refl
first_failed active mark owns (Continue t) = refl
first_failed active mark owns (RollTo t left) = refl
first_failed active mark owns (FlushPage p) = refl
first_failed active mark owns Force = refl
first_failed active mark owns Checkpoint = refl
first_failed active mark owns Switch = refl

module _ {D : Type 0} (d : Ghosts D) (before : List Effect) (s : Shown) (v : View) (step : Step) (e : Engine D d) (life : IsLife d before s v e) (only_now : (c : Files) → d.left_since e.disk (d.moment e.disk) c → d.may_leave e.disk c) where
  stops_here : LeavesOnly d e.disk e.disk (Allowed before s)
  stops_here = started d e.disk (Allowed before s) (λ told c left. life.stops c (only_now c left))

  -- of an engine that has failed
  has_no_step : e.failed ≡ true → StepKept d before s v step (Refused has_failed) e e
  has_no_step fails =
      let on = lives_go_on.refuses (apply_all empty before) s v step life.lived (life.failed ∙ fails) in
      let asks_none = failed_asks s step (life.lived.shows.shown.failed ∙ life.failed ∙ fails) in
      record {
        next = v;
        moves = on.0;
        after = record {
          stops = λ c left. allowed_as before s (shows s step (Some (Refused has_failed))) c asks_none (life.stops c left);
          failed = life.failed;
          lived = on.1;
          running = λ works. let never : true ≡ false = sym fails ∙ works in cc;
        };
        stops = unnamed d (Allowed before (shows s step None)) (allowed_nameless before (shows s step None)) e.disk e.disk (cut_any d before s step e.disk e.disk stops_here);
        done = none_done d before (shows s step (Some (Refused has_failed))) v step has_failed e;
        grown = λ works. let never : true ≡ false = sym fails ∙ works in cc;
      }

  -- of one that works
  is_barred : e.failed ≡ false → (n : ℕ) → barred v step ≡ Some n → StepKept d before s v step (Refused n) e e
  unfolding runs_on
  is_barred works n checked =
      let b = (life.running works).0 in
      let r = (life.running works).1 in
      let served = barred_served b r.earlier before s v r.now.log e.txns.rows e.txns.next e.locks step n r.serving checked in
      let asks_none = refusals_ask_nothing n step s
      (λ t is. elim (going_free v.failed (is_some (pending_of v.under t)) n ((v.txns t).mark) r.serving.works (sym (ap (λ (x : Step). barred v x) is) ∙ checked)) [
        | inl quiet ↦ inl quiet
        | inr still ↦ inr (λ going. still (is_shown_so ((s.running t).mark) ((v.txns t).mark) answers.Going (r.serving.shows.shown.marks t) going (λ x. cc x)))
      ]) in
      let shown = shows s step (Some (Refused n)) in
      let running = runs_on d before s v e r shown v e r.now (goes_on_start d b r.base r.now e.writer e.disk only_now r.stands) served.1
      (subst (λ (l : List Asked). AreCommitted r.earlier before l r.now.durable r.now.log) (sym asks_none) r.commits) r.numbered refl refl in
      step_made d before s v step (Refused n) e e v served.0 running works (cut_any d before s step e.disk e.disk stops_here) (none_done d before shown v step n e) r (no_images b r.now.log)

  -- one that the machine may refuse so, and that does nothing
  pub is_lacking : e.failed ≡ false → ((u : ℕ) → step ≡ Commit u → ⊥) → barred v step ≡ None → (n : ℕ) → Wants step n → StepKept d before s v step (Refused n) e e
  unfolding runs_on
  is_lacking works other checked n wants =
      let b = (life.running works).0 in
      let r = (life.running works).1 in
      let same = images_change_nothing b r.now.log r.now.log (record { more = []; is = refl; images = tt }) in
      let served = lacks_served b r.earlier before s v r.now.log r.now.log e.txns.rows e.txns.next e.locks step n r.serving checked wants same.0 same.1 in
      let asks_none = refusals_ask_nothing n step s (λ t is. absurd (other t is)) in
      let shown = shows s step (Some (Refused n)) in
      let running = runs_on d before s v e r shown v e r.now (goes_on_start d b r.base r.now e.writer e.disk only_now r.stands) served.1
      (subst (λ (l : List Asked). AreCommitted r.earlier before l r.now.durable r.now.log) (sym asks_none) r.commits) r.numbered refl refl in
      step_made d before s v step (Refused n) e e v served.0 running works (cut_any d before s step e.disk e.disk stops_here) (none_done d before shown v step n e) r (no_images b r.now.log)

  -- the first check that a step fails
  pub barred_kept : (n : ℕ) → Some n ≡ first_check e.failed (length e.txns.rows) (mark_for (marks_in e.txns.rows) step) (owns_in (under_of e.under) step) step → StepKept d before s v step (Refused n) e e
  barred_kept n is = by e.failed refl
    where
      by : (b : Bool) → e.failed ≡ b → StepKept d before s v step (Refused n) e e
      by true fails =
          let some : Some n ≡ Some has_failed = is ∙ ap (λ (x : Bool). first_check x (length e.txns.rows) (mark_for (marks_in e.txns.rows) step) (owns_in (under_of e.under) step) step) fails ∙ first_failed (length e.txns.rows) (mark_for (marks_in e.txns.rows) step) (owns_in (under_of e.under) step) step in
          let same : n ≡ has_failed = cc some in
          subst (λ (m : ℕ). StepKept d before s v step (Refused m) e e) (sym same) (has_no_step fails)
      by false works =
          let r = (life.running works).1 in
          is_barred works n (checks_tell d before s v e r step
          ∙ sym (is ∙ ap (λ (x : Bool). first_check x (length e.txns.rows) (mark_for (marks_in e.txns.rows) step) (owns_in (under_of e.under) step) step) works))
