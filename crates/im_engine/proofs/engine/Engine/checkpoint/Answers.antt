use Rattle.std.proofs.Common.{ℕ, ◌<◌, ◌≤◌, ◌^◌, List, Ok, Err, refl, subst, rules}
use Rattle.im_base_types.specs.Answers as answers
use Rattle.im_log_record.specs.Entry.{Checkpoint}
use Rattle.im_log_record.specs.Spelling.{size_of}
use Rattle.im_log.specs.LogFile.{end_with}
use Rattle.im_page_writer.specs.Checkpoints.{CheckpointFromKept, CheckpointKept}
use Rattle.im_page_table.specs.DirtyTable.{dirty_pages, synced_entries, FitsRecord}
use Rattle.im_page_writer.specs.Outcome.{none_mild}
use Rattle.im_base_txn.specs.declared.transaction.Transaction.{Transaction}
use Rattle.im_engine_checkpoint.specs.Rows.{listed}
use Rattle.im_base_steps.specs.declared.reply.Reply.TheVariants as replies
use Rattle.im_engine.proofs.Ending.{of_log}
use Rattle.im_engine.proofs.Forcing.{checkpoint_refused, checkpoint_taken}
use Rattle.im_engine.proofs.Telling.{told_answered, told_refused, log_ends, log_lost}
use Rattle.im_engine.proofs.Causes.{behind, checkpoint_made, checkpoint_lost, tables_cause}
use Rattle.im_engine.proofs.Paced.{paced_beside}
use Rattle.im_engine.proofs.engine.Engine.checkpoint.Goals as goal
use Rattle.im_engine.proofs.Looked.{not_true}

pub returns-in-Ok : goal.returns-in-Ok
returns-in-Ok g c =
    let old = c.args.self.now in
    let dirty = dirty_pages (synced_entries old.writer.table) in
    record {
      kept = λ before s v life.
          let r = (life.running c.requires.works).1 in
          let b = (life.running c.requires.works).0 in
          let alone = λ (few : FitsRecord old.writer.table). subst (λ (n : ℕ). CheckpointKept g.D.Disk b r.base r.now n (listed old.txns.rows) dirty old.disk c.take.new.writer c.take.new.disk (Ok c.in-Ok._lsn)) c.next.ensures
          (subst (λ (rows : List Transaction). CheckpointKept g.D.Disk b r.base r.now c.next.result (listed rows) dirty old.disk c.take.new.writer c.take.new.disk (Ok c.in-Ok._lsn)) c.table.ensures.rows
          (c.in-Ok.ensures.kept few b r.base r.now r.redo_end r.stands r.over)) in
          let always = subst (λ (n : ℕ). CheckpointFromKept g.D.Disk b r.base r.now n (listed old.txns.rows) old.disk c.take.new.writer c.take.new.disk (Ok c.in-Ok._lsn)) c.next.ensures
          (subst (λ (rows : List Transaction). CheckpointFromKept g.D.Disk b r.base r.now c.next.result (listed rows) old.disk c.take.new.writer c.take.new.disk (Ok c.in-Ok._lsn)) c.table.ensures.rows
          (c.in-Ok.ensures.always b r.base r.now r.redo_end r.stands r.over)) in
          checkpoint_taken g.D.Disk before s v old _ life c.requires.works c.in-Ok._lsn alone always refl refl refl refl;
      told = told_answered g.D.Disk old _ c.requires.works refl refl replies.Done (λ k. refl) refl refl tt refl refl c.in-Ok.ensures.outcome.ends.alive;
      answered =
          let fits = λ (few : FitsRecord old.writer.table). subst (λ (n : ℕ). end_with old.writer.log (size_of (Checkpoint n (listed old.txns.rows) dirty)) ≤ 2 ^ 62) c.next.ensures
          (subst (λ (rows : List Transaction). end_with old.writer.log (size_of (Checkpoint c.next.result (listed rows) dirty)) ≤ 2 ^ 62) c.table.ensures.rows (c.in-Ok.ensures.fits few)) in
          behind g.D.Disk old c.take.new.writer.log c.take.new.disk c.requires.works answers.Checkpoint replies.Done refl
          (λ fault. checkpoint_made g.D.Disk old c.take.new.writer.log c.take.new.disk replies.Done (λ lost. not_true (g.D.Disk.failed c.take.new.disk) c.in-Ok.ensures.outcome.ends.alive lost) fits (λ x e. cc e) fault);
      suits = search rules;
      at_once = λ _. search rules;
      paced = paced_beside g.D.Disk _ _ old _ refl (λ is. cc is) refl;
      grouped = tt;
      frames = search rules;
      wants = λ b before s v r. tt;
      quiet = λ none. absurd (none tt);
      costs = (c.take.ensures.few, λ _. c.in-Ok.ensures.costs);
    }

pub returns-in-Err : goal.returns-in-Err
returns-in-Err g c =
    let old = c.args.self.now in
    let dirty = dirty_pages (synced_entries old.writer.table) in
    let ends = c.in-Err.ensures.outcome.ends in
    record {
      kept = λ before s v life.
          let r = (life.running c.requires.works).1 in
          let b = (life.running c.requires.works).0 in
          let always = subst (λ (n : ℕ). CheckpointFromKept g.D.Disk b r.base r.now n (listed old.txns.rows) old.disk c.take.new.writer c.take.new.disk (Err c.in-Err.fault)) c.next.ensures
          (subst (λ (rows : List Transaction). CheckpointFromKept g.D.Disk b r.base r.now c.next.result (listed rows) old.disk c.take.new.writer c.take.new.disk (Err c.in-Err.fault)) c.table.ensures.rows
          (c.in-Err.ensures.always b r.base r.now r.redo_end r.stands r.over)) in
          let of = of_log g.D.Disk old.writer old.disk c.take.new.writer c.take.new.disk (old.working c.requires.works) c.in-Err.fault ends in
          checkpoint_refused g.D.Disk before s v old _ life c.requires.works c.in-Err.fault of c.told.result c.told.ensures refl always (λ t f le left. g.met.D.Disk.counts_now c.take.new.disk t f le left);
      told =
          told_refused g.D.Disk old _ c.requires.works refl refl c.in-Err.fault c.told.result c.told.ensures (log_ends g.D.Disk old.writer old.disk c.take.new.writer c.take.new.disk c.in-Err.fault ends) refl (λ _ u. refl)
          (λ lost. log_lost g.D.Disk old.writer old.disk c.take.new.writer c.take.new.disk lost none_mild c.in-Err.fault ends (old.working c.requires.works));
      answered =
          behind g.D.Disk old c.take.new.writer.log c.take.new.disk c.requires.works answers.Checkpoint (replies.Refused c.told.result) refl
          (λ fault. checkpoint_lost g.D.Disk old c.take.new.writer.log c.take.new.disk c.in-Err.fault c.told.result c.told.ensures
          (tables_cause g.D.Disk old.writer old.disk c.take.new.writer c.take.new.disk c.in-Err.fault ends (old.working c.requires.works))
          (λ full few. subst (λ (n : ℕ). 2 ^ 62 < end_with old.writer.log (size_of (Checkpoint n (listed old.txns.rows) dirty))) c.next.ensures
          (subst (λ (rows : List Transaction). 2 ^ 62 < end_with old.writer.log (size_of (Checkpoint c.next.result (listed rows) dirty))) c.table.ensures.rows (c.in-Err.ensures.full few (λ j. Err (full j))))) fault);
      suits = search rules;
      at_once = λ _. search rules;
      paced = paced_beside g.D.Disk _ _ old _ refl (λ is. cc is) refl;
      grouped = tt;
      frames = search rules;
      wants = λ b before s v r. tt;
      quiet = λ none. absurd (none tt);
      costs = (c.take.ensures.few, λ is. absurd (cc is));
    }
