use Rattle.std.proofs.Common.{Err, refl, ap, ◌∙◌, ◌+◌, ◌≤◌, ◌<◌, ℕ, inl, inr, length, arith, rules}
use Rattle.im_base_txn.specs.Rows.{is_committing}
use Rattle.im_engine.specs.Numbered.{Numbered, besides_rows}
use Rattle.im_engine.proofs.Checked.{commit_mark, commit_unowned}
use Rattle.im_engine.proofs.Running.{covered_stops, none_if}
use Rattle.im_engine.proofs.Ending.{of_log, cut_leaves, commit_refused}
use Rattle.im_engine.proofs.Emptied.{emptied_committed}
use Rattle.im_engine.proofs.Waits.{not_waiting}
use Rattle.im_page_writer.specs.Outcome.{none_mild}
use Rattle.im_base_steps.specs.declared.reply.Reply.TheVariants as replies
use Rattle.im_engine.proofs.Telling.{told_committed, told_refused, log_lost, log_ends}
use Rattle.im_engine.proofs.Causes.{append_cause, commit_made, commit_append, logged, unchanged}
use Rattle.im_base_disk.proofs.Costs.{forces_more, most_as}
use Rattle.im_theory_machine.specs.View.{pending_of}
use Rattle.im_engine.specs.Aims.{under_of}
use Rattle.im_engine.proofs.Paced.{paced_beside}
use Rattle.im_engine.proofs.engine.Engine.commit_emptied.Goals as goal
use Rattle.im_engine.proofs.Looked.{not_true}

fits_so : (used : ℕ) → (16384 < used + 33 → ⊥) → used + 33 ≤ 16384
fits_so used not_full = omega (arith, not_full)

pub end-requires : goal.end-requires
end-requires g c = not_waiting c.args.self.now.txns.rows c.args.t c.args.row c.requires.found (ap is_committing (commit_mark c.args.self.now.txns.rows _ c.args.t c.args.row c.requires.found c.requires.checked))

pub returns-in-Err : goal.returns-in-Err
returns-in-Err g c =
    let old = c.args.self.now in
    let found = c.requires.found in
    let of = of_log g.D.Disk old.writer old.disk c.log_only.new.self c.log_only.new.disk (old.working c.requires.works) c.in-Err.fault c.in-Err.ensures.outcome.ends in
    let ends = c.in-Err.ensures.outcome.ends in
    record {
      kept = λ before s v life.
          let b = (life.running c.requires.works).0 in
          let r = (life.running c.requires.works).1 in
          let kept = c.in-Err.ensures.kept b r.base r.now r.redo_end r.stands r.over (record { page = λ l p. refl; copy = λ l. refl; point = refl }) in
          commit_refused g.D.Disk before s v old _ life c.requires.works c.args.t c.requires.checked c.in-Err.fault of c.told.result c.told.ensures refl
          (cut_leaves g.D.Disk before s c.args.t old.disk c.log_only.new.disk (covered_stops g.D.Disk before s v old r c.log_only.new.disk kept.stops))
          (λ t f le left. g.met.D.Disk.counts_now c.log_only.new.disk t f le left);
      told =
          told_refused g.D.Disk old _ c.requires.works refl refl c.in-Err.fault c.told.result c.told.ensures (log_ends g.D.Disk old.writer old.disk c.log_only.new.self c.log_only.new.disk c.in-Err.fault ends) refl (λ _ u. refl)
          (λ lost. log_lost g.D.Disk old.writer old.disk c.log_only.new.self c.log_only.new.disk lost none_mild c.in-Err.fault ends (old.working c.requires.works));
      answered =
          commit_append g.D.Disk old c.log_only.new.self.log c.log_only.new.disk c.requires.works c.args.t c.args.row found c.requires.checked c.requires.some c.in-Err.fault c.told.result c.told.ensures
          (append_cause g.D.Disk old.writer old.disk c.log_only.new.self c.log_only.new.disk c.in-Err.fault c.in-Err.ensures.outcome.ends (old.working c.requires.works))
          (λ is. (c.in-Err.ensures.full.0 (λ j. Err (is j))).1) (λ over. let is = c.in-Err.ensures.full.1 (old.working c.requires.works, over) in cc is);
      suits = search rules;
      at_once = λ _. search rules;
      paced = paced_beside g.D.Disk _ _ old _ refl (λ is. cc is) refl;
      grouped = tt;
      frames = search rules;
      wants = λ b before s v r. tt;
      quiet = λ calls. c.log_only.ensures.fits (fits_so old.writer.log.used (λ full. calls (logged g.D.Disk old old.writer.log old.disk c.requires.works c.args.t c.args.row found c.requires.checked c.requires.some, inr full)));
      costs =
          record {
            most = most_as g.D.Disk 2 2 4 4 old.disk c.log_only.new.disk (omega arith) (omega arith) c.log_only.ensures.few;
            forces = λ is. absurd (cc is);
            one = λ is. absurd (cc is);
            buffered = λ is. absurd (cc is);
            room = λ is. absurd (cc is);
            ends = λ is. absurd (cc is);
          };
    }

pub returns : goal.returns
returns g c =
    let old = c.args.self.now in
    let found = c.requires.found in
    let row = c.args.row in
    let mark = commit_mark old.txns.rows _ c.args.t row found c.requires.checked in
    let lsn = c.in_default.field-0 in
    let written = c.in_default.ensures in
    let without_changes = unchanged g.D.Disk old old.writer.log old.disk c.requires.works c.args.t row found c.requires.checked (inr c.requires.emptied) in
    record {
      kept = λ before s v life.
          let r = (life.running c.requires.works).1 in
          let kept = written.kept (life.running c.requires.works).0 r.base r.now r.redo_end r.stands r.over (record { page = λ l p. refl; copy = λ l. refl; point = refl }) in
          emptied_committed g.D.Disk before s v old _ life c.requires.works c.args.t row found (inl mark) c.requires.emptied c.requires.some (none_if (pending_of (under_of old.under) c.args.t) (commit_unowned old.txns.rows c.args.t c.requires.checked)) lsn kept.ok kept.stops
          c.release_all.ensures (c.end.ensures.one row found ∙ ap (λ (x : Numbered). length x.rows + 1) c.end.ensures.left) c.end.ensures.left refl refl mark;
      told =
          told_committed g.D.Disk old _ c.requires.works (ap besides_rows c.end.ensures.left) refl (c.end.ensures.one row found) refl
          (λ lost. absurd (not_true (g.D.Disk.failed c.log_only.new.disk) written.outcome.ends.alive lost));
      answered =
          commit_made g.D.Disk old c.log_only.new.self.log c.log_only.new.disk c.requires.works c.args.t row found c.requires.checked c.requires.some replies.Committed
          (λ over. let is = written.full.1 (old.working c.requires.works, over) in cc is) (λ lost. not_true (g.D.Disk.failed c.log_only.new.disk) written.outcome.ends.alive lost) (λ x e. cc e);
      suits = search rules;
      at_once = λ _. search rules;
      paced = paced_beside g.D.Disk _ _ old _ refl (λ is. cc is) refl;
      grouped = inr without_changes;
      frames = search rules;
      wants = λ b before s v r. tt;
      quiet = λ calls. written.fits (fits_so old.writer.log.used (λ full. calls (logged g.D.Disk old old.writer.log old.disk c.requires.works c.args.t row found c.requires.checked c.requires.some, inr full)));
      costs =
          record {
            most = most_as g.D.Disk 2 2 4 4 old.disk c.log_only.new.disk (omega arith) (omega arith) c.log_only.ensures.few;
            forces = λ is. forces_more g.D.Disk 1 2 old.disk c.log_only.new.disk (omega arith) written.forces;
            one = λ is has. absurd (without_changes has);
            buffered = λ is. absurd (cc is);
            room = λ is. absurd (cc is);
            ends = λ is none. written.forces;
          };
    }
