use Rattle.std.proofs.Common.{◌≡◌, ℕ, Option, None, Some, refl, ◌∙◌, subst}
use Rattle.im_page_writer.proofs.Outcomes.{sound_on}
use Rattle.im_engine_rollback.specs.Going.{LeadsUndo}
use Rattle.im_base_disk.proofs.Runs.{reads_none, reads_then}
use Rattle.im_theory_tree.specs.Theory.{page_tree}
use Rattle.im_theory_tree.proofs.TheoryLaws.{page_tree_laws}
use Rattle.im_engine_rollback.proofs.Readings.{begins_at, found_here, found_none}
use Rattle.im_engine_rollback.proofs.Ends.{none_made, turn_behind, turn_refused_on}
use Rattle.im_engine_rollback.proofs.Turning.{beside_read}
use Rattle.im_engine_rollback.proofs.next_record.next_key_record.Goals as goal

pub loop-lsn-init : goal.loop-lsn-init
loop-lsn-init g c = record {
  outcome = none_made g.D.Disk c.args.writer.now c.args.disk.now c.requires.ready c.requires.working;
  size = refl;
  reads = reads_none g.D.Disk c.args.disk.now;
  kept = λ b base s e last going. (going.stands, begins_at b page_tree page_tree_laws s.log c.args.transaction last c.args.from going.lawful going.outside going.owner going.row);
}

option_none : (o : Option ℕ) → ((x : ℕ) → o ≡ Some x → ⊥) → o ≡ None
option_none None not_some = refl
option_none (Some x) not_some = absurd (not_some x refl)

pub returns-in_err-next-clause-outcome : goal.returns-in_err-next-clause-outcome
returns-in_err-next-clause-outcome g c =
    turn_refused_on g.D.Disk c.from_residual.result c.from_residual.ensures.1 (turn_behind g.D.Disk (λ f is. is) c.loop-lsn.invariant.outcome c.in_err-next.ensures.outcome)

pub returns-in_err-next-clause-kept : goal.returns-in_err-next-clause-kept
returns-in_err-next-clause-kept g c b base s e last going =
    let l = c.loop-lsn in
    let so = l.invariant.kept b base s e last going in
    let still = beside_read g.D.Disk b base s e c.args.transaction last c.args.from c.args.writer.now l.writer c.args.disk.now l.disk going so.0 in
    let r = c.in_err-next.ensures.kept b base s e last c.args.from still so.1 c.loop-lsn-test.true in
    sound_on c.from_residual.result _ _ c.from_residual.ensures.1 r

pub returns-in_default-clause-outcome : goal.returns-in_default-clause-outcome
returns-in_default-clause-outcome g c = turn_behind g.D.Disk (λ f is. is) c.loop-lsn.invariant.outcome c.in_ok-next.ensures.outcome

pub returns-in_default-clause-kept : goal.returns-in_default-clause-kept
returns-in_default-clause-kept g c b base s e last going =
    let l = c.loop-lsn in
    let t = c.args.transaction in
    let so = l.invariant.kept b base s e last going in
    let still = beside_read g.D.Disk b base s e t last c.args.from c.args.writer.now l.writer c.args.disk.now l.disk going so.0 in
    let r = (c.in_ok-next.ensures.kept b base s e last c.args.from still so.1 c.loop-lsn-test.true) in
    (r.0, found_here t l.lsn s.log c.loop-lsn-test.true (subst (λ (o : Option ℕ). LeadsUndo t l.lsn s.log o) (option_none c.in_ok-next.field-0 c.in_default.not-Some) r.1))

pub loop-lsn-preserved : goal.loop-lsn-preserved
loop-lsn-preserved g c =
    let l = c.loop-lsn in
    let t = c.args.transaction in
    let e = c.in_ok-next.ensures in
    record {
      outcome = turn_behind g.D.Disk (λ f is. is) l.invariant.outcome e.outcome;
      size = e.room ∙ l.invariant.size;
      reads = reads_then g.D.Disk c.args.disk.now l.disk c.read_one.new.disk l.invariant.reads e.reads;
      kept = λ b base s n last going.
          let so = l.invariant.kept b base s n last going in
          let still = beside_read g.D.Disk b base s n t last c.args.from c.args.writer.now l.writer c.args.disk.now l.disk going so.0 in
          let r = (e.kept b base s n last c.args.from still so.1 c.loop-lsn-test.true) in
          (r.0, subst (λ (o : Option ℕ). LeadsUndo t l.lsn s.log o) c.in-Some.is r.1);
    }

pub returns-clause-kept : goal.returns-clause-kept
returns-clause-kept g c b base s e last going =
    let l = c.loop-lsn in
    let so = l.invariant.kept b base s e last going in
    (so.0, found_none b page_tree s.log c.args.transaction l.lsn going.lawful so.1 c.loop-lsn-test.false)
