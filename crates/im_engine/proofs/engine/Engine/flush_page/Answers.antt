use Rattle.std.proofs.Common.{refl, rules}
use Rattle.im_engine.proofs.Ending.{flushed, flush_refused}
use Rattle.im_base_types.specs.Answers as answers
use Rattle.im_page_pool.specs.Pool.{is_changed}
use Rattle.im_base_steps.specs.declared.reply.Reply.TheVariants as replies
use Rattle.im_engine.proofs.Telling.{told_answered, told_refused, flush_lost, flush_ends, still_false}
use Rattle.im_engine.specs.Told.{FlushCause}
use Rattle.im_engine.proofs.Causes.{behind, refused_for, not_refused_for, flush_cause}
use Rattle.im_engine.proofs.Paced.{paced_beside}
use Rattle.im_engine.proofs.engine.Engine.flush_page.Goals as goal

pub returns-in-Ok : goal.returns-in-Ok
returns-in-Ok g c =
    let old = c.args.self.now in
    record {
      kept = λ before s v life.
          let b = (life.running c.requires.works).0 in
          let r = (life.running c.requires.works).1 in
          flushed g.D.Disk before s v old _ life c.requires.works c.args.page c.in-Ok.ensures.outcome (c.in-Ok.ensures.kept b r.base r.now r.stands) refl refl refl refl;
      told = told_answered g.D.Disk old _ c.requires.works refl refl replies.Done (λ k. refl) refl refl tt refl refl c.in-Ok.ensures.outcome.ends.alive;
      answered = behind g.D.Disk old c.flush_in_company.new.self.log c.flush_in_company.new.disk c.requires.works (answers.FlushPage c.args.page) replies.Done refl (λ fault. not_refused_for g.D.Disk old c.flush_in_company.new.self.log c.flush_in_company.new.disk c.requires.works (FlushCause g.D.Disk c.flush_in_company.new.self.log c.flush_in_company.new.disk) replies.Done (λ x e. cc e) fault);
      suits = search rules;
      at_once = λ _. search rules;
      paced = paced_beside g.D.Disk _ _ old _ refl (λ is. cc is) refl;
      grouped = tt;
      frames = search rules;
      wants = λ b before s v r. tt;
      quiet = λ unchanged. (c.in-Ok.ensures.unchanged (old.working c.requires.works) (still_false (is_changed old.writer.pool c.args.page) unchanged)).2;
      costs = λ is changed. c.in-Ok.ensures.costs changed;
    }

pub returns-in-Err : goal.returns-in-Err
returns-in-Err g c =
    let old = c.args.self.now in
    let ends = c.in-Err.ensures.outcome.ends in
    record {
      kept = λ before s v life. flush_refused g.D.Disk before s v old _ life c.requires.works c.args.page c.in-Err.fault c.in-Err.ensures.outcome c.told.result c.told.ensures refl (λ t f le left. g.met.D.Disk.counts_now c.flush_in_company.new.disk t f le left);
      told =
          told_refused g.D.Disk old _ c.requires.works refl refl c.in-Err.fault c.told.result c.told.ensures (flush_ends g.D.Disk old.writer old.disk c.flush_in_company.new.self c.flush_in_company.new.disk c.in-Err.fault ends) refl (λ _ u. refl)
          (λ lost. flush_lost g.D.Disk old.writer old.disk c.flush_in_company.new.self c.flush_in_company.new.disk lost c.in-Err.fault ends (old.working c.requires.works));
      answered =
          behind g.D.Disk old c.flush_in_company.new.self.log c.flush_in_company.new.disk c.requires.works (answers.FlushPage c.args.page) (replies.Refused c.told.result) refl (λ fault. refused_for g.D.Disk old c.flush_in_company.new.self.log c.flush_in_company.new.disk c.requires.works (FlushCause g.D.Disk c.flush_in_company.new.self.log c.flush_in_company.new.disk) c.in-Err.fault c.told.result c.told.ensures
          (flush_cause g.D.Disk old.writer old.disk c.flush_in_company.new.self c.flush_in_company.new.disk c.in-Err.fault c.in-Err.ensures.outcome.ends (old.working c.requires.works)) fault);
      suits = search rules;
      at_once = λ _. search rules;
      paced = paced_beside g.D.Disk _ _ old _ refl (λ is. cc is) refl;
      grouped = tt;
      frames = search rules;
      wants = λ b before s v r. tt;
      quiet = λ unchanged. (c.in-Err.ensures.unchanged (old.working c.requires.works) (still_false (is_changed old.writer.pool c.args.page) unchanged)).2;
      costs = λ is. absurd (cc is);
    }
