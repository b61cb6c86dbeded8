use Rattle.std.proofs.Common.{◌≤◌, ◌<◌, Option, refl, sym, ap, subst, ◌∙◌, length, arith, rules}
use Rattle.std.proofs.lemmas.List.{length-map}
use Rattle.im_engine.specs.Numbered.{Numbered, besides_rows}
use Rattle.im_engine.specs.Told.{HasAtMost}
use Rattle.im_engine.proofs.Checked.{back_mark, back_unowned, either_done}
use Rattle.im_engine.proofs.Waits.{not_waiting}
use Rattle.im_engine.proofs.Ending.{stays_back, turns_back}
use Rattle.im_base_steps.specs.declared.reply.Reply.TheVariants as replies
use Rattle.im_base_txn.specs.Rows.{changed, with_mark}
use Rattle.im_base_txn.specs.declared.transaction.Mark.TheVariants.{Going, Returning}
use Rattle.im_base_txn.specs.declared.transaction.Transaction.{Transaction}
use Rattle.im_engine.proofs.Telling.{alive_now, told_answered}
use Rattle.im_engine.proofs.Causes.{return_made}
use Rattle.im_theory_machine.specs.View.{pending_of}
use Rattle.im_engine.specs.Aims.{under_of}
use Rattle.im_engine.proofs.Running.{none_if}
use Rattle.im_engine.proofs.Paced.{paced_beside}
use Rattle.im_engine.proofs.engine.Engine.roll_to.Goals as goal

pub set_mark-requires-clause-before : goal.set_mark-requires-clause-before
set_mark-requires-clause-before g c =
    let found = sym c.in-Some.ensures.found in
    let old = c.args.self.now in
    not_waiting old.txns.rows c.args.t c.in-Some.row found (either_done c.in-Some.row.mark (back_mark old.txns.rows _ c.args.t c.in-Some.row found c.requires.checked))

pub set_mark-requires-2-clause-before : goal.set_mark-requires-2-clause-before
set_mark-requires-2-clause-before g c =
    let found = sym c.in-Some.ensures.found in
    let old = c.args.self.now in
    not_waiting old.txns.rows c.args.t c.in-Some.row found (either_done c.in-Some.row.mark (back_mark old.txns.rows _ c.args.t c.in-Some.row found c.requires.checked))

pub returns-then-row-left : goal.returns-then-row-left
returns-then-row-left g c =
    let old = c.args.self.now in
    let found = sym c.in-Some.ensures.found in
    let few : c.in-Some.row.changes ≤ c.args.left = omega (arith, c.if-row-left.true) in
    let table = c.set_mark.ensures.table in
    record {
      kept = λ before s v life.
          stays_back g.D.Disk before s v old _ life c.requires.works refl refl refl (g.met.D.Disk.only_now old.disk) c.args.t c.in-Some.row found (back_mark old.txns.rows _ c.args.t c.in-Some.row found c.requires.checked)
          (none_if (pending_of (under_of old.under) c.args.t) (back_unowned old.txns.rows c.args.t c.requires.checked)) c.args.left few refl table c.requires.works;
      told =
          told_answered g.D.Disk old _ c.requires.works (ap besides_rows table) refl replies.Done (λ k. refl) refl refl tt c.requires.works
          (ap (λ (x : Numbered). length x.rows) table ∙ length-map old.txns.rows (changed c.args.t (with_mark Going))) (alive_now g.D.Disk old c.requires.works);
      answered = return_made g.D.Disk old old.writer.log old.disk c.requires.works c.args.t c.args.left c.requires.checked replies.Done (λ x e. cc e);
      suits = search rules;
      at_once = λ _. search rules;
      paced = paced_beside g.D.Disk _ _ old _ refl (λ is. cc is) refl;
      grouped = subst (λ (o : Option Transaction). HasAtMost c.args.left o) (sym found) few;
      frames = refl;
      wants = λ b before s v r. tt;
      quiet = λ none. refl;
      costs = tt;
    }

pub returns : goal.returns
returns g c =
    let old = c.args.self.now in
    let found = sym c.in-Some.ensures.found in
    let more : c.args.left < c.in-Some.row.changes = omega (arith, c.if-row-left.false) in
    let table = c.set_mark-2.ensures.table in
    record {
      kept = λ before s v life.
          turns_back g.D.Disk before s v old _ life c.requires.works refl refl refl (g.met.D.Disk.only_now old.disk) c.args.t c.in-Some.row found (back_mark old.txns.rows _ c.args.t c.in-Some.row found c.requires.checked)
          (none_if (pending_of (under_of old.under) c.args.t) (back_unowned old.txns.rows c.args.t c.requires.checked)) c.args.left more refl table c.requires.works;
      told =
          told_answered g.D.Disk old _ c.requires.works (ap besides_rows table) refl replies.More (λ k. refl) refl refl tt c.requires.works
          (ap (λ (x : Numbered). length x.rows) table ∙ length-map old.txns.rows (changed c.args.t (with_mark (Returning c.args.left)))) (alive_now g.D.Disk old c.requires.works);
      answered = return_made g.D.Disk old old.writer.log old.disk c.requires.works c.args.t c.args.left c.requires.checked replies.More (λ x e. cc e);
      suits = search rules;
      at_once = λ _. search rules;
      paced = paced_beside g.D.Disk _ _ old _ refl (λ is. cc is) refl;
      grouped = λ most. (let few = subst (λ (o : Option Transaction). HasAtMost c.args.left o) found most in omega (arith, few, more));
      frames = refl;
      wants = λ b before s v r. tt;
      quiet = λ none. refl;
      costs = tt;
    }
