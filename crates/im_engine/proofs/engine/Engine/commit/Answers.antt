use Rattle.std.proofs.Common.{Err, refl, sym, ap, ◌∙◌, ◌+◌, ◌≤◌, ◌<◌, ℕ, inl, inr, length, arith, rules}
use Rattle.std.proofs.lemmas.List.{length-map}
use Rattle.im_base_txn.specs.Rows.{is_committing, changed, with_mark}
use Rattle.im_base_txn.specs.declared.transaction.Mark.TheVariants.{Committing}
use Rattle.im_theory_log.specs.WriterSteps.{appended}
use Rattle.im_log_record.specs.Entry.{Commit}
use Rattle.im_log.specs.Spelled.{logged_at}
use Rattle.im_engine.specs.Numbered.{Numbered, besides_rows}
use Rattle.im_engine.proofs.Checked.{commit_mark, commit_unowned}
use Rattle.im_engine.proofs.Running.{covered_stops, none_if}
use Rattle.im_engine.proofs.Ending.{of_log, cut_leaves, ended, commit_stops, committed_on, queued_on, commit_refused}
use Rattle.im_engine.proofs.Waits.{not_waiting}
use Rattle.im_page_writer.specs.Outcome.{none_mild}
use Rattle.im_base_steps.specs.declared.reply.Reply.TheVariants as replies
use Rattle.im_engine.proofs.Telling.{alive_now, told_committed, told_queued, told_refused, log_lost, log_ends}
use Rattle.im_engine.proofs.Causes.{append_cause, force_cause, commit_empty, commit_made, commit_append, commit_lost, has_changed, logged, unchanged}
use Rattle.im_base_disk.proofs.Costs.{forces_by, forces_none, most_as, most_none, most_then}
use Rattle.im_engine.proofs.Costs.{commit_costs}
use Rattle.im_theory_machine.specs.View.{pending_of}
use Rattle.im_engine.specs.Aims.{under_of}
use Rattle.im_engine.proofs.Paced.{paced_beside}
use Rattle.im_engine.proofs.engine.Engine.commit.Goals as goal
use Rattle.im_engine.proofs.Looked.{not_true}

fits_so : (used : ℕ) → (16384 < used + 33 → ⊥) → used + 33 ≤ 16384
fits_so used not_full = omega (arith, not_full)

pub end-requires : goal.end-requires
end-requires g c =
    let found = sym c.in-Some.ensures.found in
    not_waiting c.args.self.now.txns.rows c.args.t c.in-Some.row found (ap is_committing (commit_mark c.args.self.now.txns.rows _ c.args.t c.in-Some.row found c.requires.checked))

pub end-requires-2 : goal.end-requires-2
end-requires-2 g c =
    let found = sym c.in-Some.ensures.found in
    not_waiting c.args.self.now.txns.rows c.args.t c.in-Some.row found (ap is_committing (commit_mark c.args.self.now.txns.rows _ c.args.t c.in-Some.row found c.requires.checked))

pub returns-then-row-eq0 : goal.returns-then-row-eq0
returns-then-row-eq0 g c =
    let old = c.args.self.now in
    let found = sym c.in-Some.ensures.found in
    record {
      kept = λ before s v life.
          ended g.D.Disk before s v old _ life c.requires.works c.args.t c.in-Some.row found (commit_mark old.txns.rows _ c.args.t c.in-Some.row found c.requires.checked)
          c.release_all.ensures (c.end.ensures.one c.in-Some.row found ∙ ap (λ (x : Numbered). length x.rows + 1) c.end.ensures.left) c.end.ensures.left c.requires.works (none_if (pending_of (under_of old.under) c.args.t) (commit_unowned old.txns.rows c.args.t c.requires.checked)) refl
          (omega (arith, c.if-row-eq0.true)) refl refl (g.met.D.Disk.only_now old.disk);
      told =
          told_committed g.D.Disk old _ c.requires.works (ap besides_rows c.end.ensures.left) refl (c.end.ensures.one c.in-Some.row found) c.requires.works
          (λ lost. absurd (not_true (g.D.Disk.failed old.disk) (alive_now g.D.Disk old c.requires.works) lost));
      answered = commit_empty g.D.Disk old old.writer.log old.disk c.requires.works c.args.t c.in-Some.row found c.requires.checked replies.Committed (omega (arith, c.if-row-eq0.true)) (λ x e. cc e);
      suits = search rules;
      at_once = λ _. search rules;
      paced = paced_beside g.D.Disk _ _ old _ refl (λ is. cc is) refl;
      grouped = inr (λ has. unchanged g.D.Disk old old.writer.log old.disk c.requires.works c.args.t c.in-Some.row found c.requires.checked (inl (omega (arith, c.if-row-eq0.true))) has);
      frames = search rules;
      wants = λ b before s v r. tt;
      quiet = λ calls. refl;
      costs =
          record {
            most = most_none g.D.Disk 4 4 old.disk;
            forces = λ is. forces_none g.D.Disk 2 old.disk;
            one = λ is has. absurd (unchanged g.D.Disk old old.writer.log old.disk c.requires.works c.args.t c.in-Some.row found c.requires.checked (inl (omega (arith, c.if-row-eq0.true))) has);
            buffered = λ is. absurd (cc is);
            room = λ is. absurd (cc is);
            ends = λ is none. forces_none g.D.Disk 1 old.disk;
          };
    }

pub returns-in-Err : goal.returns-in-Err
returns-in-Err g c =
    let old = c.args.self.now in
    let found = sym c.in-Some.ensures.found in
    let of = of_log g.D.Disk old.writer old.disk c.log_only.new.self c.log_only.new.disk (old.working c.requires.works) c.in-Err.fault c.in-Err.ensures.outcome.ends in
    let ends = c.in-Err.ensures.outcome.ends in
    record {
      kept = λ before s v life.
          let b = (life.running c.requires.works).0 in
          let r = (life.running c.requires.works).1 in
          let kept = c.in-Err.ensures.kept b r.base r.now r.redo_end r.stands r.over (record { page = λ l p. refl; copy = λ l. refl; point = refl }) in
          commit_refused g.D.Disk before s v old _ life c.requires.works c.args.t c.requires.checked c.in-Err.fault of c.told.result c.told.ensures refl
          (cut_leaves g.D.Disk before s c.args.t old.disk c.log_only.new.disk (covered_stops g.D.Disk before s v old r c.log_only.new.disk kept.stops))
          (λ t f le left. g.met.D.Disk.counts_now c.log_only.new.disk t f le left);
      told =
          told_refused g.D.Disk old _ c.requires.works refl refl c.in-Err.fault c.told.result c.told.ensures (log_ends g.D.Disk old.writer old.disk c.log_only.new.self c.log_only.new.disk c.in-Err.fault ends) refl (λ _ u. refl)
          (λ lost. log_lost g.D.Disk old.writer old.disk c.log_only.new.self c.log_only.new.disk lost none_mild c.in-Err.fault ends (old.working c.requires.works));
      answered =
          commit_append g.D.Disk old c.log_only.new.self.log c.log_only.new.disk c.requires.works c.args.t c.in-Some.row found c.requires.checked (omega (arith, c.if-row-eq0.false)) c.in-Err.fault c.told.result c.told.ensures
          (append_cause g.D.Disk old.writer old.disk c.log_only.new.self c.log_only.new.disk c.in-Err.fault c.in-Err.ensures.outcome.ends (old.working c.requires.works))
          (λ is. (c.in-Err.ensures.full.0 (λ j. Err (is j))).1) (λ over. let is = c.in-Err.ensures.full.1 (old.working c.requires.works, over) in cc is);
      suits = search rules;
      at_once = λ _. search rules;
      paced = paced_beside g.D.Disk _ _ old _ refl (λ is. cc is) refl;
      grouped = tt;
      frames = search rules;
      wants = λ b before s v r. tt;
      quiet = λ calls. c.log_only.ensures.fits (fits_so old.writer.log.used (λ full. calls (logged g.D.Disk old old.writer.log old.disk c.requires.works c.args.t c.in-Some.row found c.requires.checked (omega (arith, c.if-row-eq0.false)), inr full)));
      costs =
          record {
            most = most_as g.D.Disk 2 2 4 4 old.disk c.log_only.new.disk (omega arith) (omega arith) c.log_only.ensures.few;
            forces = λ is. absurd (cc is);
            one = λ is. absurd (cc is);
            buffered = λ is. absurd (cc is);
            room = λ is. absurd (cc is);
            ends = λ is. absurd (cc is);
          };
    }

pub wait-requires-clause-there : goal.wait-requires-clause-there
wait-requires-clause-there g c =
    let old = c.args.self.now in
    let found = sym c.in-Some.ensures.found in
    (c.in-Some.row, found, ap is_committing (commit_mark old.txns.rows _ c.args.t c.in-Some.row found c.requires.checked))

pub returns-then-group : goal.returns-then-group
returns-then-group g c =
    let old = c.args.self.now in
    let found = sym c.in-Some.ensures.found in
    let row = c.in-Some.row in
    let mark = commit_mark old.txns.rows _ c.args.t row found c.requires.checked in
    let lsn = c.in_default-log_only.field-0 in
    let written = c.in_default-log_only.ensures in
    record {
      kept = λ before s v life.
          let r = (life.running c.requires.works).1 in
          let logged = written.kept (life.running c.requires.works).0 r.base r.now r.redo_end r.stands r.over (record { page = λ l p. refl; copy = λ l. refl; point = refl }) in
          queued_on g.D.Disk before s v old _ life c.requires.works c.args.t row found mark (omega (arith, c.if-row-eq0.false)) (omega (arith, c.if-row-eq0-2.false)) lsn c.log_only.new.self c.log_only.new.disk logged.ok (none_if (pending_of (under_of old.under) c.args.t) (commit_unowned old.txns.rows c.args.t c.requires.checked)) refl refl logged.stops refl c.wait.ensures.table refl refl;
      told =
          told_queued g.D.Disk old _ c.requires.works c.args.t (ap besides_rows c.wait.ensures.table) (ap (λ (x : Numbered). length x.rows) c.wait.ensures.table ∙ length-map old.txns.rows (changed c.args.t (with_mark Committing))) refl refl written.outcome.ends.alive;
      answered =
          commit_made g.D.Disk old c.log_only.new.self.log c.log_only.new.disk c.requires.works c.args.t c.in-Some.row found c.requires.checked (omega (arith, c.if-row-eq0.false)) replies.More
          (λ over. let is = written.full.1 (old.working c.requires.works, over) in cc is) (λ lost. not_true (g.D.Disk.failed c.log_only.new.disk) written.outcome.ends.alive lost) (λ x e. cc e);
      suits = search rules;
      at_once = λ _. search rules;
      paced = paced_beside g.D.Disk _ _ old _ refl (λ is. cc is) refl;
      grouped = (sym c.group.ensures ∙ c.if-group.true, has_changed g.D.Disk old old.writer.log old.disk c.requires.works c.args.t c.in-Some.row found c.requires.checked (omega (arith, c.if-row-eq0.false)) (omega (arith, c.if-row-eq0-2.false)));
      frames = search rules;
      wants = λ b before s v r. tt;
      quiet = λ calls. written.fits (fits_so old.writer.log.used (λ full. calls (logged g.D.Disk old old.writer.log old.disk c.requires.works c.args.t c.in-Some.row found c.requires.checked (omega (arith, c.if-row-eq0.false)), inr full)));
      costs =
          record {
            most = most_as g.D.Disk 2 2 4 4 old.disk c.log_only.new.disk (omega arith) (omega arith) c.log_only.ensures.few;
            forces = λ is. absurd (cc is);
            one = λ is. absurd (cc is);
            buffered = λ is fits. written.fits fits;
            room = λ is. written.forces;
            ends = λ is. absurd (cc is);
          };
    }

pub returns-in-Err-force : goal.returns-in-Err-force
returns-in-Err-force g c =
    let old = c.args.self.now in
    let found = sym c.in-Some.ensures.found in
    let row = c.in-Some.row in
    let lsn = c.in_default-log_only.field-0 in
    let of = of_log g.D.Disk c.log_only.new.self c.log_only.new.disk c.force.new.self c.force.new.disk c.in_default-log_only.ensures.outcome.ends.works c.in-Err-force.fault c.in-Err-force.ensures.outcome.ends in
    let works = c.in_default-log_only.ensures.outcome.ends.works in
    let ends = c.in-Err-force.ensures.outcome.ends in
    let cause = force_cause g.D.Disk c.log_only.new.self c.log_only.new.disk c.force.new.self c.force.new.disk c.in-Err-force.fault c.in-Err-force.ensures.outcome.ends works (λ full. c.in-Err-force.ensures.room (λ j. Err (full j))) in
    record {
      kept = λ before s v life.
          let b = (life.running c.requires.works).0 in
          let r = (life.running c.requires.works).1 in
          let logged = c.in_default-log_only.ensures.kept b r.base r.now r.redo_end r.stands r.over (record { page = λ l p. refl; copy = λ l. refl; point = refl }) in
          let forced = c.in-Err-force.ensures.kept b r.base (record (appended (logged_at lsn (Commit c.args.t row.last)) r.now) { durable = logged.ok.durable }) logged.ok.stands in
          commit_refused g.D.Disk before s v old _ life c.requires.works c.args.t c.requires.checked c.in-Err-force.fault of c.told-in-Err-force.result c.told-in-Err-force.ensures refl
          (commit_stops g.D.Disk before s v old old life c.requires.works c.args.t row found (commit_mark old.txns.rows _ c.args.t row found c.requires.checked) (omega (arith, c.if-row-eq0.false)) (omega (arith, c.if-row-eq0-2.false)) lsn c.log_only.new.self c.log_only.new.disk logged.ok (none_if (pending_of (under_of old.under) c.args.t) (commit_unowned old.txns.rows c.args.t c.requires.checked))
          c.force.new.disk logged.stops forced.stops)
          (λ t f le left. g.met.D.Disk.counts_now c.force.new.disk t f le left);
      told =
          told_refused g.D.Disk old _ c.requires.works refl refl c.in-Err-force.fault c.told-in-Err-force.result c.told-in-Err-force.ensures (log_ends g.D.Disk c.log_only.new.self c.log_only.new.disk c.force.new.self c.force.new.disk c.in-Err-force.fault ends) refl (λ _ u. refl)
          (λ lost. log_lost g.D.Disk c.log_only.new.self c.log_only.new.disk c.force.new.self c.force.new.disk lost none_mild c.in-Err-force.fault ends works);
      answered =
          commit_lost g.D.Disk old c.force.new.self.log c.force.new.disk c.requires.works c.args.t c.in-Some.row found c.requires.checked (omega (arith, c.if-row-eq0.false)) c.told-in-Err-force.result (c.told-in-Err-force.ensures ∙ cause.0)
          (λ over. let is = c.in_default-log_only.ensures.full.1 (old.working c.requires.works, over) in cc is) cause.1;
      suits = search rules;
      at_once = λ _. search rules;
      paced = paced_beside g.D.Disk _ _ old _ refl (λ is. cc is) refl;
      grouped = tt;
      frames = search rules;
      wants = λ b before s v r. tt;
      quiet = λ calls. absurd (calls (logged g.D.Disk old old.writer.log old.disk c.requires.works c.args.t c.in-Some.row found c.requires.checked (omega (arith, c.if-row-eq0.false)), inl (has_changed g.D.Disk old old.writer.log old.disk c.requires.works c.args.t c.in-Some.row found c.requires.checked (omega (arith, c.if-row-eq0.false)) (omega (arith, c.if-row-eq0-2.false)), sym c.group.ensures ∙ c.if-group.false)));
      costs =
          record {
            most = most_then g.D.Disk 2 2 2 2 old.disk c.log_only.new.disk c.force.new.disk c.log_only.ensures.few c.force.ensures.few;
            forces = λ is. absurd (cc is);
            one = λ is. absurd (cc is);
            buffered = λ is. absurd (cc is);
            room = λ is. absurd (cc is);
            ends = λ is. absurd (cc is);
          };
    }

pub returns : goal.returns
returns g c =
    let old = c.args.self.now in
    let found = sym c.in-Some.ensures.found in
    let row = c.in-Some.row in
    let mark = commit_mark old.txns.rows _ c.args.t row found c.requires.checked in
    let lsn = c.in_default-log_only.field-0 in
    let written = c.in_default-log_only.ensures in
    let synced = c.in_default-force.ensures in
    record {
      kept = λ before s v life.
          let b = (life.running c.requires.works).0 in
          let r = (life.running c.requires.works).1 in
          let logged = c.in_default-log_only.ensures.kept b r.base r.now r.redo_end r.stands r.over (record { page = λ l p. refl; copy = λ l. refl; point = refl }) in
          let forced = c.in_default-force.ensures.kept b r.base (record (appended (logged_at lsn (Commit c.args.t row.last)) r.now) { durable = logged.ok.durable }) logged.ok.stands in
          committed_on g.D.Disk before s v old _ life c.requires.works c.args.t row found mark (omega (arith, c.if-row-eq0.false)) (omega (arith, c.if-row-eq0-2.false)) lsn c.log_only.new.self c.log_only.new.disk logged.ok (none_if (pending_of (under_of old.under) c.args.t) (commit_unowned old.txns.rows c.args.t c.requires.checked))
          c.law_are_counted.ensures.rising (sym c.law_are_counted.ensures.waiting ∙ c.law_are_counted.ensures.alone (sym c.group.ensures ∙ c.if-group.false)) forced.ok (commit_stops g.D.Disk before s v old old life c.requires.works c.args.t row found mark (omega (arith, c.if-row-eq0.false)) (omega (arith, c.if-row-eq0-2.false)) lsn c.log_only.new.self c.log_only.new.disk logged.ok (none_if (pending_of (under_of old.under) c.args.t) (commit_unowned old.txns.rows c.args.t c.requires.checked)) c.force.new.disk logged.stops forced.stops)
          c.release_all-2.ensures (c.end-2.ensures.one row found ∙ ap (λ (x : Numbered). length x.rows + 1) c.end-2.ensures.left) c.end-2.ensures.left refl refl;
      told =
          told_committed g.D.Disk old _ c.requires.works (ap besides_rows c.end-2.ensures.left) refl (c.end-2.ensures.one c.in-Some.row found) refl
          (λ lost. absurd (not_true (g.D.Disk.failed c.force.new.disk) c.in_default-force.ensures.outcome.ends.alive lost));
      answered =
          commit_made g.D.Disk old c.force.new.self.log c.force.new.disk c.requires.works c.args.t c.in-Some.row found c.requires.checked (omega (arith, c.if-row-eq0.false)) replies.Committed
          (λ over. let is = c.in_default-log_only.ensures.full.1 (old.working c.requires.works, over) in cc is) (λ lost. not_true (g.D.Disk.failed c.force.new.disk) c.in_default-force.ensures.outcome.ends.alive lost) (λ x e. cc e);
      suits = search rules;
      at_once = λ _. search rules;
      paced = paced_beside g.D.Disk _ _ old _ refl (λ is. cc is) refl;
      grouped = inl (sym c.group.ensures ∙ c.if-group.false);
      frames = search rules;
      wants = λ b before s v r. tt;
      quiet = λ calls. absurd (calls (logged g.D.Disk old old.writer.log old.disk c.requires.works c.args.t c.in-Some.row found c.requires.checked (omega (arith, c.if-row-eq0.false)), inl (has_changed g.D.Disk old old.writer.log old.disk c.requires.works c.args.t c.in-Some.row found c.requires.checked (omega (arith, c.if-row-eq0.false)) (omega (arith, c.if-row-eq0-2.false)), sym c.group.ensures ∙ c.if-group.false)));
      costs =
          commit_costs g.D.Disk old.writer.log.used _ replies.Committed old.disk c.log_only.new.disk c.force.new.disk c.log_only.ensures.few c.force.ensures.few written.forces
          (forces_by g.D.Disk c.log_only.new.self.log.used c.log_only.new.disk c.force.new.disk synced.costs (λ none. (synced.none written.outcome.ends.works none).2)) written.fits
          (λ fits. synced.costs (omega (arith, written.used fits))) (λ e. cc e) (has_changed g.D.Disk old old.writer.log old.disk c.requires.works c.args.t c.in-Some.row found c.requires.checked (omega (arith, c.if-row-eq0.false)) (omega (arith, c.if-row-eq0-2.false)));
    }
