-- A Commit and a Rollback of a transaction that has records, but no change that stands: its End is logged, and no force is made.
use Rattle.std.proofs.Common.{◌≢◌, ◌≡◌, ◌⊎◌, inl, ℕ, ◌+◌, ◌≤◌, ◌<◌, ◌^◌, List, [], ◌∷◌, ◌++◌, append-nil, true, false, Option, Some, None, length, refl, sym, ap, subst, ◌∙◌}
use Rattle.std.specs.Prelude.{find}
use Rattle.im_base_types.specs.Faults.{number_of}
use Rattle.im_base_types.specs.declared.fault.Fault.{Fault}
use Rattle.im_base_types.specs.Answers.{Commit, Committed, Rollback, RolledBack, Refused}
use Rattle.im_base_types.specs.Changes.{Effect, seen_effect}
use Rattle.im_base_types.specs.Lives.{Asked, Shown, shows}
use Rattle.im_base_disk.specs.declared.disk.Disk.{Ghosts}
use Rattle.im_base_disk.specs.Disk.{Files}
use Rattle.im_log_record.specs.Entry as entries
use Rattle.im_log.specs.Spelled.{logged_at}
use Rattle.im_theory_log.specs.Histories.{Base, History}
use Rattle.im_theory_log.specs.Lawful.{IsLawful, IsOutside}
use Rattle.im_theory_log.specs.Structure.{open_smo}
use Rattle.im_theory_log.specs.Transactions.{last_of, net}
use Rattle.im_theory_log.specs.Writer.{Writer}
use Rattle.im_theory_log.specs.WriterSteps.{appended}
use Rattle.im_page_file.specs.Stands.{LeavesCovered}
use Rattle.im_page_writer.specs.PageWriter.{LoggedOnly}
use Rattle.im_theory_tree.specs.Theory.{page_tree}
use Rattle.im_theory_tree.proofs.TheoryLaws.{page_tree_laws}
use Rattle.im_base_txn.specs.Rows.{is_of, is_committing}
use Rattle.im_base_txn.specs.LookUps.{without}
use Rattle.im_base_txn.specs.declared.transaction.Mark.TheVariants.{Going, MustRollBack}
use Rattle.im_base_txn.specs.declared.transaction.Transaction.{Transaction}
use Rattle.im_theory_machine.specs.Table.{IsReleased}
use Rattle.im_theory_machine.specs.View.{View, committed_by, dropped_by, owns_in, pending_of, owner_in, owner_of}
use Rattle.im_theory_steps.specs.Checks.{checked_by}
use Rattle.im_theory_steps.specs.Durable.{AreCommitted}
use Rattle.im_theory_steps.specs.Growth.{AreBelow}
use Rattle.im_theory_steps.specs.Serving.{IsRow, IsServing, mark_of}
use Rattle.im_theory_steps.specs.Steps.{end_record}
use Rattle.im_theory_steps.proofs.Cited.{at, commits_stand, effect_shown, empty_asked, empty_commits_served, empty_rollbacks_served, end_leaves, none_stands}
use Rattle.im_engine.specs.declared.engine.Engine.{Engine}
use Rattle.im_engine.specs.declared.stepped.Under.{Under}
use Rattle.im_engine.specs.Aims.{IsChanging, under_of}
use Rattle.im_engine.specs.Faults.{told_as}
use Rattle.im_engine.specs.Growing.{emptied, some_records}
use Rattle.im_engine.specs.Kept.{StepKept}
use Rattle.im_engine.specs.Numbered.{Numbered}
use Rattle.im_engine.specs.Running.{IsRunning, IsLife}
use Rattle.im_engine.proofs.Ending.{IsOfLog, cut_leaves, waits_not}
use Rattle.im_engine.proofs.GoingOn.{record_goes}
use Rattle.im_engine.proofs.Made.{step_made}
use Rattle.im_engine.proofs.Refused.{breaks_with}
use Rattle.im_engine.proofs.Running.{checks_tell, covered_stops, not_owner, nothing_pending, outside_of}
use Rattle.im_engine.proofs.Waits.{not_waiting, out_of}

module _ {D : Type 0} (d : Ghosts D) (before : List Effect) (s : Shown) (v : View) (old new : Engine D d) (life : IsLife d before s v old) (works : old.failed ≡ false) where
  abbrev run : (b : Base) × IsRunning d b before s v old
  run = life.running works

  module _ (t : ℕ) (row : Transaction) (found : find (is_of t) old.txns.rows ≡ Some row) (mark : (row.mark ≡ Going) ⊎ (row.mark ≡ MustRollBack)) (empty : row.changes ≡ 0) (some : 1 ≤ row.last) (unowned : pending_of (under_of old.under) t ≡ None)
      (lsn : ℕ) (logged : LoggedOnly d run.0 run.1.base run.1.now (entries.End t row.last) lsn new.writer new.disk) (run_stops : LeavesCovered d run.0 run.1.base run.1.now.durable run.1.now.log old.disk new.disk)
      (released : IsReleased old.locks t new.locks) (once : length old.txns.rows ≡ length (without t old.txns.rows) + 1) (table : new.txns ≡ record old.txns { rows = without t old.txns.rows }) (works_on : new.failed ≡ false) (stays : new.under ≡ old.under) where
    free : owner_in v ≢ Some t
    free = not_owner d before s v old run.1 t row found mark unowned

    -- the open structure change is another's
    out : IsOutside t (open_smo run.1.now.log)
    out = outside_of d before s v old run.1 t free

    abbrev longer : History
    longer = end_record t row.last lsn ∷ run.1.now.log

    abbrev with_end : Writer
    with_end = record (appended (logged_at lsn (entries.End t row.last)) run.1.now) { durable = logged.durable }

    is_at : (row.number ≡ t) × IsRow row old.txns.next run.1.now.log × ((v.txns t).mark ≡ mark_of row.mark)
    is_at = at run.0 run.1.earlier before s v run.1.now.log old.txns.rows old.txns.next old.locks run.1.serving t row found (waits_not row.mark mark)

    none_left : net t run.1.now.log ≡ []
    none_left = none_stands t old.txns.next run.1.now.log row is_at.0 is_at.1 empty

    last_is : row.last ≡ last_of t run.1.now.log
    last_is = is_at.1.last ∙ ap (λ (n : ℕ). last_of n run.1.now.log) is_at.0

    has_last : 1 ≤ last_of t run.1.now.log
    has_last = subst (λ (n : ℕ). 1 ≤ n) last_is some

    longer_is : longer ≡ end_record t (last_of t run.1.now.log) lsn ∷ run.1.now.log
    longer_is = ap (λ (n : ℕ). end_record t n lsn ∷ run.1.now.log) last_is

    -- what was committed stays so
    commits_on : AreCommitted run.1.earlier before s.asked logged.durable longer
    commits_on =
        let r = run.1 in
        let same = end_leaves run.0 t r.now.log (end_record t row.last lsn) refl refl none_left in
        commits_stand.more r.earlier before s.asked r.now.durable longer logged.durable (commits_stand.stay r.earlier before s.asked r.now.durable r.now.log longer r.commits same.0.commits)
        (record { from = logged.grows; upto = logged.stands.writing.stands.kept.front })

    runs_emptied : (after : Shown) (w : View) → IsLawful run.0 page_tree longer → IsServing run.0 run.1.earlier before after w longer (without t old.txns.rows) old.txns.next new.locks → AreCommitted run.1.earlier before after.asked logged.durable longer → w.under ≡ v.under
        → IsRunning d run.0 before after w new
    runs_emptied after w lawful serving commits goes_on =
        let r = run.1 in
        record {
          base = r.base;
          start = r.start;
          counted = r.counted;
          earlier = r.earlier;
          now = with_end;
          stands = logged.stands;
          redo_end = r.redo_end;
          over = r.over;
          lawful = lawful;
          changing =
              subst (λ (u : Option Under). IsChanging run.0 u longer) (sym stays)
              (record_goes run.0 old.under (end_record t row.last lsn) r.now.log lawful refl (λ u is same. free (ap owner_of (r.same ∙ ap under_of is) ∙ ap (λ (n : ℕ). Some n) (sym same))) refl refl r.changing);
          serving = subst (λ (x : Numbered). IsServing run.0 r.earlier before after w longer x.rows x.next new.locks) (sym table) serving;
          commits = commits;
          numbered = subst (λ (n : ℕ). n ≤ 2 ^ 62 → AreBelow n longer) (sym (ap (λ (x : Numbered). x.next) table)) (λ le. (subst (λ (n : ℕ). n < old.txns.next) is_at.0 is_at.1.below, r.numbered le));
          same = goes_on ∙ r.same ∙ ap under_of (sym stays);
        }

    -- by its Rollback
    pub emptied_dropped : StepKept d before s v (Rollback t) RolledBack old new
    unfolding runs_emptied
    emptied_dropped =
        let r = run.1 in
        let law = empty_rollbacks_served page_tree page_tree_laws run.0 r.earlier before s v r.now.log old.txns.rows old.txns.next old.locks new.locks t lsn row r.serving found mark empty free r.lawful out logged.high released once in
        let w = dropped_by v t in
        let running = runs_emptied (shows s (Rollback t) (Some RolledBack)) w law.lawful law.served.1 commits_on refl in
        step_made d before s v (Rollback t) RolledBack old new w law.served.0 running works_on (covered_stops d before s v old r new.disk run_stops) tt r (some_records lsn has_last none_left longer_is)

    -- and by its Commit, which asks nothing
    module _ (going : row.mark ≡ Going) where
      asks_none : (shows s (Commit t) (Some Committed)).asked ≡ s.asked
      asks_none =
          let r = run.1 in
          let shown_so : (s.running t).effect ≡ seen_effect (net t r.now.log) =
          effect_shown s v r.serving.shows.shown t (nothing_pending d before s v old r t unowned) (inl (is_at.2 ∙ ap mark_of going)) ∙ ap seen_effect (r.serving.seen_by.nets t (out_of run.0 r.earlier before s v r.now.log old.txns.rows old.txns.next old.locks r.serving t (not_waiting old.txns.rows t row found (ap is_committing going)))) in
          let effect_is : (s.running t).effect ≡ [] = shown_so ∙ ap seen_effect none_left in
          ap (λ (l : List Asked). s.asked ++ l) (empty_asked t true (s.running t).mark (s.running t).effect effect_is) ∙ append-nil s.asked

      pub emptied_committed : StepKept d before s v (Commit t) Committed old new
      unfolding runs_emptied
      emptied_committed =
          let r = run.1 in
          let law = empty_commits_served page_tree page_tree_laws run.0 r.earlier before s v r.now.log old.txns.rows old.txns.next old.locks new.locks t lsn row r.serving found going empty free r.lawful out logged.high released once in
          let after = shows s (Commit t) (Some Committed) in
          let w = committed_by v t in
          let running = runs_emptied after w law.lawful law.served.1 (subst (λ (l : List Asked). AreCommitted r.earlier before l logged.durable longer) (sym asks_none) commits_on) refl in
          step_made d before s v (Commit t) Committed old new w law.served.0 running works_on (cut_leaves d before s t old.disk new.disk (covered_stops d before s v old r new.disk run_stops)) tt r (emptied lsn has_last none_left longer_is)

  -- a Rollback whose End was refused
  pub emptied_refused : (t : ℕ) → checked_by old.txns.rows (owns_in (under_of old.under) (Rollback t)) (Rollback t) ≡ None → (f : Fault) → IsOfLog f → (told : Fault) → told ≡ told_as f → new.failed ≡ true → LeavesCovered d run.0 run.1.base run.1.now.durable run.1.now.log old.disk new.disk
      → ((u : ℕ) (c : Files) → u ≤ d.moment new.disk → d.may_leave new.disk c → d.left_since new.disk u c) → StepKept d before s v (Rollback t) (Refused (number_of told)) old new
  emptied_refused t checked f of told is fails run_stops counts_now =
      subst (λ (y : Fault). StepKept d before s v (Rollback t) (Refused (number_of y)) old new) (sym is)
      (breaks_with d before s v (Rollback t) (λ u e. cc e) (checks_tell d before s v old run.1 (Rollback t) ∙ checked) old new life works counts_now (number_of (told_as f)) of.broken fails
      (covered_stops d before s v old run.1 new.disk run_stops))
