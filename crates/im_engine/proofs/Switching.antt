-- A Switch: the log goes on in the other file, over the pages and the map that the old one made.
use Rattle.std.proofs.Common.{◌≡◌, ◌⊎◌, inl, inr, ℕ, ◌<◌, ◌≤◌, Bool, true, false, List, [], ◌++◌, length, Option, None, Some, refl, sym, ◌∙◌, ap, subst, arith}
use Rattle.std.specs.Prelude.{nat_lt}
use Rattle.std.proofs.lemmas.Bool.{cases_lt, lt-ltb}
use Rattle.im_base_types.specs.Answers.{Switch, Done, Refused}
use Rattle.im_base_types.specs.Changes.{Effect, seen}
use Rattle.im_base_types.specs.Faults.{number_of}
use Rattle.im_base_types.specs.Lives.{Shown}
use Rattle.im_base_types.specs.Refusals.{busy}
use Rattle.im_base_types.specs.declared.fault.Fault.{Fault}
use Rattle.im_theory_log.specs.Copies.{GrowsByImages}
use Rattle.im_theory_log.specs.Histories.{Base, History, end_of}
use Rattle.im_theory_log.specs.Lawful.{IsLawful}
use Rattle.im_theory_log.specs.Transactions.{committed}
use Rattle.im_theory_switch.specs.Switch.{base_after, switched as switched_writer}
use Rattle.im_theory_switch.proofs.Switch.{switches}
use Rattle.im_base_disk.specs.declared.disk.Disk.{Ghosts}
use Rattle.im_base_disk.specs.Disk.{Files}
use Rattle.im_base_two_logs.specs.Renamed.{named, same_files}
use Rattle.im_base_two_logs.specs.Runs.{LeavesNamed}
use Rattle.im_log.proofs.Switching.{named_weakened}
use Rattle.im_page_file.specs.Stands.{IsCovered}
use Rattle.im_page_writer.specs.Switching.{LeftSwitching, Switched}
use Rattle.im_page_writer.proofs.Switching.{in_file}
use Rattle.im_restart_analysis.specs.Orderly.{IsCounted}
use Rattle.im_theory_tree.specs.Theory.{page_tree}
use Rattle.im_theory_machine.specs.View.{View}
use Rattle.im_theory_machine.specs.Machine.{Breaks, fault_if}
use Rattle.im_theory_machine.specs.Table.{locks_of}
use Rattle.im_theory_steps.specs.Checks.{checked_by}
use Rattle.im_theory_steps.specs.Serving.{IsServing}
use Rattle.im_theory_steps.specs.Switching.{IsSwitched}
use Rattle.im_theory_steps.proofs.Cited.{switches_served, copies_are_images, images_change_nothing, images_keep}
use Rattle.im_engine.specs.declared.engine.Engine.{Engine}
use Rattle.im_engine.specs.Faults.{told_as}
use Rattle.im_engine.specs.Numbered.{Numbered}
use Rattle.im_engine.specs.Stands.{Allowed}
use Rattle.im_engine.specs.Running.{IsRunning, IsLife}
use Rattle.im_engine.specs.Serves.{nobody_owns}
use Rattle.im_engine.specs.declared.stepped.Under.{Under}
use Rattle.im_engine.specs.Aims.{IsChanging, under_of}
use Rattle.im_engine.specs.Kept.{StepKept}
use Rattle.im_engine.proofs.Made.{step_broke_named}
use Rattle.im_engine.proofs.Named.{allowed_nameless}
use Rattle.im_engine.proofs.Running.{checks_tell, left_on, stops_now, tells}
use Rattle.im_engine.proofs.Stands.{covered_allowed}

-- nobody is active where the check passes
none_active : (n : ℕ) → fault_if (nat_lt 0 n) busy ≡ None → n ≡ 0
none_active n is = elim (cases_lt 0 n) [
  | inl some ↦ absurd (let never : Some busy ≡ None = ap (λ (b : Bool). fault_if b busy) (sym (lt-ltb 0 n some)) ∙ is in cc never)
  | inr none ↦ omega (arith, none)
]

-- by either names
by_names : (before : List Effect) (s : Shown) (swapped : Bool) (c : Files) → Allowed before s (named swapped c) → Allowed before s c
by_names before s false c is = is
by_names before s true c is = subst (Allowed before s) (same_files true c) (allowed_nameless before s (named true c) is)

module _ {D : Type 0} (d : Ghosts D) (before : List Effect) (s : Shown) (v : View) (old new : Engine D d) (life : IsLife d before s v old) (works : old.failed ≡ false) (checked : checked_by old.txns.rows false Switch ≡ None) where
  abbrev run : (b : Base) × IsRunning d b before s v old
  run = life.running works

  quiet : v.active ≡ 0
  quiet = run.1.serving.table.active ∙ none_active (length old.txns.rows) checked

  -- a log that has grown by Images
  module _ (high : History) (grows : GrowsByImages run.0 run.1.now.log high) where
    lawful : IsLawful run.0 page_tree high
    lawful = (copies_are_images page_tree run.0 run.1.now.log high grows).lawful run.1.lawful

    same : committed high ≡ committed run.1.now.log
    same = (images_change_nothing run.0 run.1.now.log high (copies_are_images page_tree run.0 run.1.now.log high grows).images).0.commits

    serving : IsServing run.0 run.1.earlier before s v high old.txns.rows old.txns.next old.locks
    serving = images_keep run.0 run.1.earlier before s v run.1.now.log high old.txns.rows old.txns.next old.locks run.1.serving (copies_are_images page_tree run.0 run.1.now.log high grows).images

    -- what the empty log is over what it made
    pub gone : (place : ℕ) → IsSwitched (base_after run.0 high place) run.1.earlier before s v high old.txns.rows old.txns.next old.locks
    gone place = switches_served page_tree run.0 (base_after run.0 high place) run.1.earlier before s v high old.txns.rows old.txns.next old.locks serving quiet lawful refl

    empty_lawful : (place : ℕ) → end_of run.0 high < place → IsLawful (base_after run.0 high place) page_tree []
    empty_lawful place end = switches page_tree run.0 high place lawful (gone place).finished (omega (arith, end))

    -- no log goes on at LSN 0
    begins_later : (place : ℕ) → end_of run.0 high < place → IsCounted (base_after run.0 high place) place
    begins_later place end first = absurd (omega (arith, end, first))

    -- a stop leaves the one log or the other
    left_either : (place : ℕ) → end_of run.0 high < place → (c : Files) → IsCovered run.0 run.1.base run.1.now.durable high c ⊎ IsCovered (base_after run.0 high place) place [] [] c → Allowed before s c
    left_either place end c (inl is) = left_on d before s v old run.1 high lawful same c is
    left_either place end c (inr is) =
        let on = gone place in
        covered_allowed (base_after run.0 high place) place (run.1.earlier ++ seen (committed high)) before s [] [] (omega arith) (begins_later place end) on.served.1.made (empty_lawful place end) on.commits c is

  pub switch_stops : LeavesNamed d old.disk new.disk (LeftSwitching run.0 run.1.base run.1.now) → LeavesNamed d old.disk new.disk (Allowed before s)
  switch_stops leaves = named_weakened d old.disk new.disk (LeftSwitching run.0 run.1.base run.1.now) (Allowed before s) leaves
      (λ told c left. by_names before s left.swapped c (left_either left.high left.grows left.place left.end (named left.swapped c) left.covered))

  -- the log went on
  pub gone_on : Switched d run.0 run.1.base run.1.now old.txns.next new.writer new.disk → LeavesNamed d old.disk new.disk (LeftSwitching run.0 run.1.base run.1.now) → new.txns ≡ old.txns → new.locks ≡ old.locks → new.failed ≡ false → new.under ≡ old.under
      → StepKept d before s v Switch Done old new
  gone_on done leaves table locks works_on stays =
      let r = run.1 in
      let none : old.under ≡ None = nobody_owns d before s v old r quiet in
      let longer = done.now.log in
      let grows = done.keeps.log in
      let on = gone longer grows done.place in
      let next_base = base_after run.0 longer done.place in
      let running : IsRunning d next_base before s v new = record {
        base = done.place;
        start = omega arith;
        counted = begins_later longer grows done.place done.end;
        earlier = r.earlier ++ seen (committed longer);
        now = switched_writer done.place done.now;
        stands = done.stands;
        redo_end = done.place;
        over = refl;
        lawful = empty_lawful longer grows done.place done.end;
        changing = subst (λ (u : Option Under). IsChanging next_base u []) (sym (stays ∙ none)) refl;
        serving = subst (λ (x : Numbered). IsServing next_base (r.earlier ++ seen (committed longer)) before s v [] x.rows x.next new.locks) (sym table)
            (subst (λ (l : _). IsServing next_base (r.earlier ++ seen (committed longer)) before s v [] old.txns.rows old.txns.next l) (sym locks) on.served.1);
        commits = on.commits;
        numbered = λ le. tt;
        same = r.same ∙ ap under_of (sym stays);
      } in
      record {
        next = v;
        moves = on.served.0;
        after = record {
          stops = stops_now d before s v new running;
          failed = running.serving.works ∙ sym works_on;
          lived = record { shows = running.serving.shows; reached = running.serving.reached };
          running = λ _. (next_base, running);
        };
        stops = switch_stops leaves;
        done = record {
          b = next_base;
          running = running;
          none = refl;
          number = done.number ∙ sym (ap (λ (x : Numbered). x.next) table);
          clean = done.clean;
          in_file = in_file d next_base done.place (switched_writer done.place done.now) done.place new.writer new.disk done.stands refl refl done.clean done.stands.writing.stands.ready (λ r of same. of);
          quiet = quiet;
        };
        grown = λ _. inr (record {
          asked = refl;
          told = refl;
          b = run.0;
          was = r;
          longer = longer;
          grows = grows;
          place = done.place;
          end = done.end;
          now = running;
          starts = refl;
          none = refl;
        });
      }

  -- it was refused
  pub switch_refused : (f : Fault) → Breaks (number_of (told_as f)) → (told : Fault) → told ≡ told_as f → new.failed ≡ true → LeavesNamed d old.disk new.disk (LeftSwitching run.0 run.1.base run.1.now)
      → ((u : ℕ) (c : Files) → u ≤ d.moment new.disk → d.may_leave new.disk c → d.left_since new.disk u c) → StepKept d before s v Switch (Refused (number_of told)) old new
  switch_refused f broken told is fails leaves counts_now =
      let stops = switch_stops leaves in
      subst (λ (y : Fault). StepKept d before s v Switch (Refused (number_of y)) old new) (sym is)
      (step_broke_named d before s v Switch (number_of (told_as f)) old new (locks_of new.locks) life (checks_tell d before s v old run.1 Switch ∙ checked) broken fails stops
      (λ c left. stops.each (tells d before s v old run.1) c (counts_now (d.moment old.disk) c stops.later left))
      tt)
