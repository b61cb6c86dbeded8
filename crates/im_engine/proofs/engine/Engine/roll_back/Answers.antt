use Rattle.std.proofs.Common.{inl, inr, refl, sym, ap, ◌∙◌, ◌+◌, length, arith, rules}
use Rattle.im_engine.specs.Numbered.{Numbered, besides_rows}
use Rattle.im_engine.proofs.Checked.{back_mark, back_unowned, either_done}
use Rattle.im_engine.proofs.Waits.{not_waiting}
use Rattle.im_engine.proofs.Ending.{dropped, turned}
use Rattle.std.proofs.lemmas.List.{length-map}
use Rattle.im_base_steps.specs.declared.reply.Reply.TheVariants as replies
use Rattle.im_base_txn.specs.Rows.{changed, with_mark}
use Rattle.im_base_txn.specs.declared.transaction.Mark.TheVariants.{RollingBack}
use Rattle.im_engine.proofs.Telling.{alive_now, told_answered, told_rolled_back}
use Rattle.im_engine.proofs.Causes.{not_emptied, rollback_made}
use Rattle.im_base_disk.proofs.Costs.{most_none}
use Rattle.im_theory_machine.specs.View.{pending_of}
use Rattle.im_engine.specs.Aims.{under_of}
use Rattle.im_engine.proofs.Running.{none_if}
use Rattle.im_engine.proofs.Paced.{paced_beside}
use Rattle.im_engine.proofs.engine.Engine.roll_back.Goals as goal
use Rattle.im_engine.proofs.Looked.{not_true}

pub set_mark-requires-clause-before : goal.set_mark-requires-clause-before
set_mark-requires-clause-before g c =
    let found = sym c.in-Some.ensures.found in
    not_waiting c.args.self.now.txns.rows c.args.t c.in-Some.row found (either_done c.in-Some.row.mark (back_mark c.args.self.now.txns.rows _ c.args.t c.in-Some.row found c.requires.checked))

pub end-requires : goal.end-requires
end-requires g c =
    let found = sym c.in-Some.ensures.found in
    not_waiting c.args.self.now.txns.rows c.args.t c.in-Some.row found (either_done c.in-Some.row.mark (back_mark c.args.self.now.txns.rows _ c.args.t c.in-Some.row found c.requires.checked))

pub returns-then-row-ne0 : goal.returns-then-row-ne0
returns-then-row-ne0 g c =
    let old = c.args.self.now in
    let found = sym c.in-Some.ensures.found in
    record {
      kept = λ before s v life.
          turned g.D.Disk before s v old _ life c.requires.works refl refl refl (g.met.D.Disk.only_now old.disk) c.args.t c.in-Some.row found (back_mark old.txns.rows _ c.args.t c.in-Some.row found c.requires.checked)
          (none_if (pending_of (under_of old.under) c.args.t) (back_unowned old.txns.rows c.args.t c.requires.checked))
          (omega (arith, c.if-row-ne0.true)) refl c.set_mark.ensures.table c.requires.works;
      told =
          told_answered g.D.Disk old _ c.requires.works (ap besides_rows c.set_mark.ensures.table) refl replies.More (λ k. refl) refl refl tt c.requires.works
          (ap (λ (x : Numbered). length x.rows) c.set_mark.ensures.table ∙ length-map old.txns.rows (changed c.args.t (with_mark RollingBack))) (alive_now g.D.Disk old c.requires.works);
      answered = rollback_made g.D.Disk old old.writer.log old.disk c.requires.works c.args.t c.requires.checked replies.More (not_emptied c.args.t old.txns.rows c.in-Some.row found (inl (omega (arith, c.if-row-ne0.true)))) (λ x e. cc e);
      suits = search rules;
      at_once = λ _. search rules;
      paced = paced_beside g.D.Disk _ _ old _ refl (λ is. cc is) refl;
      grouped = tt;
      frames = refl;
      wants = λ b before s v r. tt;
      quiet = λ none. refl;
      costs = most_none g.D.Disk 2 2 old.disk;
    }

pub returns : goal.returns
returns g c =
    let old = c.args.self.now in
    let found = sym c.in-Some.ensures.found in
    record {
      kept = λ before s v life.
          dropped g.D.Disk before s v old _ life c.requires.works refl refl refl (g.met.D.Disk.only_now old.disk) c.args.t c.in-Some.row found (back_mark old.txns.rows _ c.args.t c.in-Some.row found c.requires.checked)
          (none_if (pending_of (under_of old.under) c.args.t) (back_unowned old.txns.rows c.args.t c.requires.checked))
          (omega (arith, c.if-row-ne0-2.false)) c.release_all.ensures (c.end.ensures.one c.in-Some.row found ∙ ap (λ (x : Numbered). length x.rows + 1) c.end.ensures.left) c.end.ensures.left c.requires.works;
      told =
          told_rolled_back g.D.Disk old _ c.requires.works (ap besides_rows c.end.ensures.left) refl (c.end.ensures.one c.in-Some.row found) c.requires.works
          (λ lost. absurd (not_true (g.D.Disk.failed old.disk) (alive_now g.D.Disk old c.requires.works) lost));
      answered = rollback_made g.D.Disk old old.writer.log old.disk c.requires.works c.args.t c.requires.checked replies.RolledBack (not_emptied c.args.t old.txns.rows c.in-Some.row found (inr (omega (arith, c.if-row-ne0-2.false)))) (λ x e. cc e);
      suits = search rules;
      at_once = λ _. search rules;
      paced = paced_beside g.D.Disk _ _ old _ refl (λ is. cc is) refl;
      grouped = tt;
      frames = refl;
      wants = λ b before s v r. tt;
      quiet = λ none. refl;
      costs = most_none g.D.Disk 2 2 old.disk;
    }
