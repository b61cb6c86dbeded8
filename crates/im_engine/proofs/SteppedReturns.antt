-- The exits of a change that is taken back, where its transaction has others left, or has returned.
use Rattle.std.proofs.Common.{◌≡◌, ◌≢◌, inl, inr, ℕ, List, [], Bool, true, false, Some, None, Ok, length, map, refl, ap, ◌∙◌}
use Rattle.std.specs.Prelude.{find}
use Rattle.im_base_types.specs.Answers.{Continue}
use Rattle.im_base_types.specs.Changes.{Effect}
use Rattle.im_base_types.specs.Lives.{Shown}
use Rattle.im_base_disk.specs.declared.disk.Disk.{Ghosts}
use Rattle.im_base_steps.specs.declared.reply.Reply.{Reply}
use Rattle.im_base_steps.specs.declared.reply.Reply.TheVariants.{Done, More}
use Rattle.im_base_txn.specs.Rows.{changed, is_of}
use Rattle.im_base_txn.specs.declared.transaction.Transaction.{Transaction}
use Rattle.im_theory_log.specs.Histories.{Base}
use Rattle.im_theory_log.specs.Structure.{settled}
use Rattle.im_theory_log.specs.Transactions.{to_undo}
use Rattle.im_theory_log.specs.Writer.{Writer}
use Rattle.im_tree_search.specs.declared.change_beside.Beside.{Beside}
use Rattle.im_tree_search.specs.declared.sight.Sight.TheVariants.{Seen}
use Rattle.im_smo_actions.specs.GoingBeside.{IsToldOf}
use Rattle.im_restart_undo.specs.GoingBeside.{IsGoingBeside}
use Rattle.im_restart_undo.specs.declared.back.Back.TheVariants.{Plain}
use Rattle.im_engine_rollback.specs.InSteps.{InStepsKept}
use Rattle.im_engine_rollback.specs.SplitsBack.{CloseBackKept}
use Rattle.im_engine_rollback.specs.TurnsBeside.{TookBeside}
use Rattle.im_engine_rollback.specs.declared.undone.Undone.TheVariants as turns
use Rattle.im_engine_rollback.specs.declared.undone_in_steps.UndoneInSteps.TheVariants as steps
use Rattle.im_theory_machine.specs.View.{View, owner_of, owns_in}
use Rattle.im_theory_steps.specs.Checks.{checked_by}
use Rattle.im_theory_steps.specs.Steps.{with_undone}
use Rattle.im_engine.specs.declared.engine.Engine.{Engine}
use Rattle.im_engine.specs.declared.stepped.Under.{Under}
use Rattle.im_engine.specs.Aims.{IsBesideOf, IsToldTo, under_of}
use Rattle.im_engine.specs.Kept.{StepKept}
use Rattle.im_engine.specs.Numbered.{Numbered, besides_rows, ends_back, has_returned, on_again, with_back}
use Rattle.im_engine.specs.Paces.{Bars}
use Rattle.im_engine.specs.Running.{IsLife, IsRunning}
use Rattle.im_engine.specs.Told.{IsMade, NeedsBack, fixed_of}
use Rattle.im_engine.specs.TurningBack.{EndsBack}
use Rattle.im_engine.proofs.Returning.{again_long, told_back}
use Rattle.im_engine.proofs.SteppedBackPaces.{answered_want, ends_pace, ends_want, needs_next, never_barred, stays_pace}
use Rattle.im_engine.proofs.SteppedCloses.{back_more}
use Rattle.im_engine.proofs.SteppedTold.{told_of}
use Rattle.im_engine.proofs.SteppedTurns.{going_beside, made_more, some_left, turned_more}
use Rattle.im_engine.proofs.Telling.{told_answered}
use Rattle.im_engine.proofs.Turning.{continue_made}

abbrev pub reply_back : Bool → Reply
reply_back true = Done
reply_back false = More

-- ---- one that has no structure change of its own

module _ {D : Type 0} (d : Ghosts D) (t : ℕ) (row : Transaction) (old new : Engine D d) (works : old.failed ≡ false) (other : owner_of (under_of old.under) ≢ Some t) (checked : checked_by old.txns.rows (owns_in (under_of old.under) (Continue t)) (Continue t) ≡ None)
    (found : find (is_of t) old.txns.rows ≡ Some row) (free : checked_by old.txns.rows false (Continue t) ≡ None) (beside : Beside) (told_is : IsBesideOf old.under beside) (ends : Bool) (ends_is : ends ≡ ends_back row) (last undo_next : ℕ)
    (took : (b : Base) (base : ℕ) (s : Writer) (e : ℕ) → IsGoingBeside d b base s e t row.last row.undo_next old.writer old.disk → to_undo t s.log ≢ [] → IsToldOf b beside s.log
    → InStepsKept d b base ends s e t row.last row.undo_next beside old.disk new.writer new.disk (Ok (Seen (steps.Made (turns.More last undo_next)))))
    (works_on : new.failed ≡ false) (alive : d.failed new.disk ≡ false) (frames : new.writer.pool.frames ≡ old.writer.pool.frames) (fixed : fixed_of d new ≡ fixed_of d old) (under : new.under ≡ old.under) (locks : new.locks ≡ old.locks)
    (table : new.txns ≡ record old.txns { rows = on_again t (map (changed t (with_undone last undo_next)) old.txns.rows) }) where
  took_in : {b : Base} (before : List Effect) (s : Shown) (v : View) (r : IsRunning d b before s v old) → InStepsKept d b r.base ends r.now r.redo_end t row.last row.undo_next beside old.disk new.writer new.disk (Ok (Seen (steps.Made (turns.More last undo_next))))
  took_in {b} before s v r = took b r.base r.now r.redo_end (going_beside d before s v t row old r found free other) (some_left d before s v t row old r found free other) (told_of b old.under beside r.now.log told_is r.changing)

  took_one : {b : Base} (before : List Effect) (s : Shown) (v : View) (r : IsRunning d b before s v old) → TookBeside d b r.base r.now r.redo_end t last undo_next beside old.disk new.writer new.disk
  took_one {b} before s v r = (made_more d b r.base ends r.now r.redo_end t last undo_next beside old.disk new.writer new.disk (took_in before s v r).sound).0

  kept_back : (reply : Bool) → reply ≡ has_returned (with_undone last undo_next row) → (before : List Effect) (s : Shown) (v : View) → IsLife d before s v old → StepKept d before s v (Continue t) (told_back reply) old new
  kept_back reply is before s v life =
      let kept = took_in before s v (life.running works).1 in
      turned_more d before s v t row old new life works found free other works_on kept.stops beside told_is ends reply last undo_next ends_is is kept.sound under locks table

  not_barred : {A : Type 0} (b : Base) (before : List Effect) (s : Shown) (v : View) (r : IsRunning d b before s v old) (u : Under) → old.under ≡ Some u → (two : Beside) → IsToldTo u two → Bars (settled b r.now.log) two v.walk r.now.log (Continue t) → A
  not_barred b before s v r u some two told_two bars = let is = took_one before s v r in absurd (never_barred d before s v t old r other beside told_is u some two told_two is.entry is.next (Plain is.took.page) is.took.planned bars)

  needs_none : {A : Type 0} (b : Base) (before : List Effect) (s : Shown) (v : View) (r : IsRunning d b before s v old) → NeedsBack (settled b r.now.log) v.walk ((v.txns t).net) → A
  needs_none b before s v r needs = let is = took_one before s v r in absurd (is.took.planned.whole (needs_next d before s v t row old r found free is.entry is.next.next needs))

  long : length new.txns.rows ≡ length old.txns.rows
  long = ap (λ (x : Numbered). length x.rows) table ∙ again_long t (with_undone last undo_next) old.txns.rows

  pub taken_made : (reply : Bool) → reply ≡ has_returned (with_undone last undo_next row) → IsMade d (Continue t) (reply_back reply) old new
  taken_made true is = record {
    kept = kept_back true is;
    told = told_answered d old new works (ap besides_rows table) fixed Done (λ k. refl) refl refl tt works_on long alive;
    answered = continue_made d old works t checked new.writer.log new.disk Done (λ x e. cc e);
    suits = refl;
    at_once = λ plain. refl;
    paced = stays_pace d t old new other Done under (λ e. absurd (cc e)) not_barred;
    grouped = tt;
    frames = frames;
    wants = λ b before s v r. answered_want (settled b r.now.log) v.walk old.stepped (under_of old.under) (under_of new.under) t ((v.txns t).net) _ Done (λ x e. cc e) (needs_none b before s v r);
    quiet = λ none. absurd (none tt);
    costs = tt;
  }
  taken_made false is = record {
    kept = kept_back false is;
    told = told_answered d old new works (ap besides_rows table) fixed More (λ k. refl) refl refl tt works_on long alive;
    answered = continue_made d old works t checked new.writer.log new.disk More (λ x e. cc e);
    suits = refl;
    at_once = λ plain. refl;
    paced = stays_pace d t old new other More under (λ e. absurd (cc e)) not_barred;
    grouped = tt;
    frames = frames;
    wants = λ b before s v r. answered_want (settled b r.now.log) v.walk old.stepped (under_of old.under) (under_of new.under) t ((v.txns t).net) _ More (λ x e. cc e) (needs_none b before s v r);
    quiet = λ none. absurd (none tt);
    costs = tt;
  }

-- ---- behind a structure change of its own

module _ {D : Type 0} (d : Ghosts D) (t : ℕ) (row : Transaction) (old new : Engine D d) (works : old.failed ≡ false) (splits : Bool) (own : EndsBack splits t old.under) (checked : checked_by old.txns.rows (owns_in (under_of old.under) (Continue t)) (Continue t) ≡ None)
    (found : find (is_of t) old.txns.rows ≡ Some row) (free : checked_by old.txns.rows false (Continue t) ≡ None) (ends : Bool) (ends_is : ends ≡ ends_back row) (last undo_next : ℕ)
    (closed : (b : Base) (before : List Effect) (s : Shown) (v : View) (r : IsRunning d b before s v old)
    → CloseBackKept d b r.base splits ends r.now r.redo_end t own.u.begun.change.last own.u.begun.change.undo_next old.disk new.writer new.disk (Ok (turns.More last undo_next)))
    (works_on : new.failed ≡ false) (alive : d.failed new.disk ≡ false) (frames : new.writer.pool.frames ≡ old.writer.pool.frames) (fixed : fixed_of d new ≡ fixed_of d old) (gone : new.under ≡ None) (locks : new.locks ≡ old.locks)
    (table : new.txns ≡ record old.txns { rows = on_again t (map (changed t (with_back splits last undo_next)) old.txns.rows) }) where
  kept_closed : (reply : Bool) → reply ≡ has_returned (with_back splits last undo_next row) → (before : List Effect) (s : Shown) (v : View) → IsLife d before s v old → StepKept d before s v (Continue t) (told_back reply) old new
  kept_closed reply is before s v life =
      let r = (life.running works).1 in
      let kept = closed (life.running works).0 before s v r in
      back_more d before s v t row old r found free splits own new works_on kept.stops gone splits own.aim_is ends reply last undo_next ends_is is kept.sound locks table

  long_closed : length new.txns.rows ≡ length old.txns.rows
  long_closed = ap (λ (x : Numbered). length x.rows) table ∙ again_long t (with_back splits last undo_next) old.txns.rows

  pub closed_made : (reply : Bool) → reply ≡ has_returned (with_back splits last undo_next row) → IsMade d (Continue t) (reply_back reply) old new
  closed_made true is = record {
    kept = kept_closed true is;
    told = told_answered d old new works (ap besides_rows table) fixed Done (λ k. refl) refl refl tt works_on long_closed alive;
    answered = continue_made d old works t checked new.writer.log new.disk Done (λ x e. cc e);
    suits = refl;
    at_once = λ plain. refl;
    paced = ends_pace d t splits old own new Done (λ e. cc e) (inl (inr (inr refl), gone));
    grouped = tt;
    frames = frames;
    wants = λ b before s v r. ends_want d t splits old own (under_of new.under) (settled b r.now.log) v.walk ((v.txns t).net) _ Done (λ e. cc e) (λ e. cc e);
    quiet = λ none. absurd (none tt);
    costs = tt;
  }
  closed_made false is = record {
    kept = kept_closed false is;
    told = told_answered d old new works (ap besides_rows table) fixed More (λ k. refl) refl refl tt works_on long_closed alive;
    answered = continue_made d old works t checked new.writer.log new.disk More (λ x e. cc e);
    suits = refl;
    at_once = λ plain. refl;
    paced = ends_pace d t splits old own new More (λ e. cc e) (inl (inl refl, gone));
    grouped = tt;
    frames = frames;
    wants = λ b before s v r. ends_want d t splits old own (under_of new.under) (settled b r.now.log) v.walk ((v.txns t).net) _ More (λ e. cc e) (λ e. cc e);
    quiet = λ none. absurd (none tt);
    costs = tt;
  }
