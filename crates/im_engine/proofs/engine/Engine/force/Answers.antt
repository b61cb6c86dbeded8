use Rattle.std.proofs.Common.{refl, ap, subst, ◌∙◌, List, length, Err, arith, rules}
use Rattle.im_base_txn.specs.declared.transaction.Transaction.{Transaction}
use Rattle.im_base_txn.specs.Rows.{waiting_numbers}
use Rattle.im_base_txn.proofs.Waiting.{waiting_counts}
use Rattle.im_theory_machine.specs.Table.{AreReleased}
use Rattle.im_theory_machine.specs.View.{is_among}
use Rattle.im_engine.specs.Numbered.{Numbered, besides_rows}
use Rattle.im_engine.proofs.Ending.{of_log, log_forced, force_refused}
use Rattle.im_base_types.specs.Answers as answers
use Rattle.im_base_steps.specs.declared.reply.Reply.TheVariants as replies
use Rattle.im_engine.proofs.Telling.{told_forced, told_refused, ends_as}
use Rattle.im_engine.proofs.Causes.{behind, force_made, force_lost, force_cause}
use Rattle.im_engine.proofs.Paced.{paced_beside}
use Rattle.im_engine.proofs.engine.Engine.force.Goals as goal
use Rattle.im_engine.proofs.Looked.{not_true}

pub returns-in-Ok : goal.returns-in-Ok
returns-in-Ok g c =
    let old = c.args.self.now in
    record {
      kept = λ before s v life.
          let b = (life.running c.requires.works).0 in
          let r = (life.running c.requires.works).1 in
          let forced = c.in-Ok.ensures.kept b r.base r.now r.stands in
          log_forced g.D.Disk before s v old _ life c.requires.works forced.ok forced.stops c.law_are_counted.ensures.rising
          (subst (λ (l : List Transaction). AreReleased old.locks (λ t. is_among t (waiting_numbers l)) c.release_waiting.new.locks) c.rows.ensures c.release_waiting.ensures) c.end_waiting.ensures.table refl refl;
      told =
          told_forced g.D.Disk old _ c.requires.works (ap besides_rows c.end_waiting.ensures.table)
          (let all = waiting_counts old.txns.rows in let counted = c.law_are_counted.ensures.waiting in let left = ap (λ (x : Numbered). length x.rows) c.end_waiting.ensures.table in omega (arith, all, counted, left)) refl refl c.in-Ok.ensures.outcome.ends.alive;
      answered = behind g.D.Disk old c.force.new.self.log c.force.new.disk c.requires.works answers.Force replies.Done refl (λ fault. force_made g.D.Disk old c.force.new.self.log c.force.new.disk replies.Done (λ lost. not_true (g.D.Disk.failed c.force.new.disk) c.in-Ok.ensures.outcome.ends.alive lost) (λ x e. cc e) fault);
      suits = search rules;
      at_once = λ _. search rules;
      paced = paced_beside g.D.Disk _ _ old _ refl (λ is. cc is) refl;
      grouped = tt;
      frames = search rules;
      wants = λ b before s v r. tt;
      quiet = λ empty. (c.in-Ok.ensures.none (old.working c.requires.works) (omega (arith, empty))).2;
      costs = record { most = c.force.ensures.few; one = λ is some. c.in-Ok.ensures.costs some };
    }

pub returns-in-Err : goal.returns-in-Err
returns-in-Err g c =
    let old = c.args.self.now in
    let of = of_log g.D.Disk old.writer old.disk c.force.new.self c.force.new.disk (old.working c.requires.works) c.in-Err.fault c.in-Err.ensures.outcome.ends in
    let cause = force_cause g.D.Disk old.writer old.disk c.force.new.self c.force.new.disk c.in-Err.fault c.in-Err.ensures.outcome.ends (old.working c.requires.works) (λ full. c.in-Err.ensures.room (λ j. Err (full j))) in
    record {
      kept = λ before s v life.
          let b = (life.running c.requires.works).0 in
          let r = (life.running c.requires.works).1 in
          force_refused g.D.Disk before s v old _ life c.requires.works c.in-Err.fault of c.told.result c.told.ensures refl (c.in-Err.ensures.kept b r.base r.now r.stands).stops (λ t f le left. g.met.D.Disk.counts_now c.force.new.disk t f le left);
      told = told_refused g.D.Disk old _ c.requires.works refl refl c.in-Err.fault c.told.result c.told.ensures (ends_as c.in-Err.fault cause.0) refl (λ _ u. refl) (λ lost. cause.0);
      answered = behind g.D.Disk old c.force.new.self.log c.force.new.disk c.requires.works answers.Force (replies.Refused c.told.result) refl (λ fault. force_lost g.D.Disk old c.force.new.self.log c.force.new.disk c.told.result (c.told.ensures ∙ cause.0) cause.1 fault);
      suits = search rules;
      at_once = λ _. search rules;
      paced = paced_beside g.D.Disk _ _ old _ refl (λ is. cc is) refl;
      grouped = tt;
      frames = search rules;
      wants = λ b before s v r. tt;
      quiet = λ empty. (c.in-Err.ensures.none (old.working c.requires.works) (omega (arith, empty))).2;
      costs = record { most = c.force.ensures.few; one = λ is. absurd (cc is) };
    }
