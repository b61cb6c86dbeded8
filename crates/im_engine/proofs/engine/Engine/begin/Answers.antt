use Rattle.std.proofs.Common.{ℕ, ◌≤◌, ◌^◌, refl, ap, subst, rules}
use Rattle.im_engine.proofs.Ending.{begin_few, began, numbers_end}
use Rattle.im_base_types.specs.declared.fault.Fault.TheVariants.{Capacity}
use Rattle.im_base_types.specs.declared.fault.Fault.TheVariants as faults
use Rattle.im_base_steps.specs.declared.reply.Reply.TheVariants as replies
use Rattle.im_engine.specs.Numbered.{besides_rows}
use Rattle.im_engine.proofs.Telling.{alive_now, told_started, told_refused}
use Rattle.im_engine.proofs.Causes.{begin_made, begin_full}
use Rattle.im_engine.proofs.Paced.{paced_beside}
use Rattle.im_engine.proofs.engine.Engine.begin.Goals as goal
use Rattle.im_engine.proofs.Looked.{not_true}

pub returns-in-Some : goal.returns-in-Some
returns-in-Some g c =
    let old = c.args.self.now in
    let made = c.in-Some.ensures.some in
    record {
      kept = λ before s v life. began g.D.Disk before s v old _ life c.requires.works refl refl refl (g.met.D.Disk.only_now old.disk) c.in-Some.number made.0 made.1 (begin_few old.txns.rows c.requires.checked) made.2 refl c.requires.works;
      told = told_started g.D.Disk old _ c.requires.works c.in-Some.number made.0 made.2 refl c.requires.works refl;
      answered = begin_made g.D.Disk old old.writer.log old.disk c.requires.works c.requires.checked (replies.Started c.in-Some.number) (subst (λ (n : ℕ). n ≤ 2 ^ 62) made.0 made.1) (λ x e. cc e);
      suits = search rules;
      at_once = λ _. search rules;
      paced = paced_beside g.D.Disk _ _ old _ refl (λ is. cc is) refl;
      grouped = tt;
      frames = refl;
      wants = λ b before s v r. tt;
      quiet = λ none. refl;
      costs = tt;
    }

pub returns-in-None : goal.returns-in-None
returns-in-None g c =
    let old = c.args.self.now in
    let same = c.in-None.ensures.none in
    record {
      kept = λ before s v life. numbers_end g.D.Disk before s v old _ life c.requires.works c.requires.checked refl refl (g.met.D.Disk.only_now old.disk) (λ t f le left. g.met.D.Disk.counts_now old.disk t f le left);
      told = told_refused g.D.Disk old _ c.requires.works (ap besides_rows same) refl Capacity faults.Capacity refl refl same (λ _ u. refl) (λ lost. absurd (not_true (g.D.Disk.failed old.disk) (alive_now g.D.Disk old c.requires.works) lost));
      answered = begin_full g.D.Disk old old.writer.log old.disk c.requires.works c.requires.checked c.in-None.ensures.used_up;
      suits = search rules;
      at_once = λ _. search rules;
      paced = paced_beside g.D.Disk _ _ old _ refl (λ is. cc is) refl;
      grouped = tt;
      frames = refl;
      wants = λ b before s v r. tt;
      quiet = λ none. refl;
      costs = tt;
    }
