use Rattle.std.proofs.Common.{Bool, Ok, refl, sym, subst}
use Rattle.im_engine_rollback.specs.declared.undone.Undone.TheVariants.{More}
use Rattle.im_engine_rollback.specs.EndsBeside.{EndIfUndoneBesideKept}
use Rattle.im_engine_rollback.specs.Turns.{EndIfUndoneKept}
use Rattle.im_engine_rollback.proofs.Ends.{none_made}
use Rattle.im_engine_rollback.proofs.Turning.{none_stops}
use Rattle.im_restart_undo.proofs.Closed.{closed_beside}
use Rattle.im_engine_rollback.proofs.undo_step.end_or_go_on.Goals as goal

pub returns-then-ends-clause-kept : goal.returns-then-ends-clause-kept
returns-then-ends-clause-kept g c b base s e going loser =
    subst (λ (x : Bool). EndIfUndoneKept g.D.Disk b base x s e c.args.transaction c.args.last c.args.undo_next c.args.disk.now c.end_if_undone.new.writer c.end_if_undone.new.disk c.end_if_undone.result) (sym c.if-ends.true)
    (c.end_if_undone.ensures.kept b base s e going loser)

pub returns-then-ends-clause-beside : goal.returns-then-ends-clause-beside
returns-then-ends-clause-beside g c b base s e going loser =
    subst (λ (x : Bool). EndIfUndoneBesideKept g.D.Disk b base x s e c.args.transaction c.args.last c.args.undo_next c.args.disk.now c.end_if_undone.new.writer c.end_if_undone.new.disk c.end_if_undone.result) (sym c.if-ends.true)
    (c.end_if_undone.ensures.beside b base s e going loser)

-- ---- it goes on

pub returns-clause-outcome : goal.returns-clause-outcome
returns-clause-outcome g c = none_made g.D.Disk c.args.writer.now c.args.disk.now c.requires.ready c.requires.working

pub returns-clause-kept : goal.returns-clause-kept
returns-clause-kept g c b base s e going loser =
    subst (λ (x : Bool). EndIfUndoneKept g.D.Disk b base x s e c.args.transaction c.args.last c.args.undo_next c.args.disk.now c.args.writer.now c.args.disk.now (Ok (More c.args.last c.args.undo_next))) (sym c.if-ends.false)
    (record {
      sound = (refl, refl, going.stands);
      stops = none_stops g.D.Disk b base s e c.args.transaction c.args.last c.args.undo_next c.args.writer.now c.args.disk.now (g.met.D.Disk.only_now c.args.disk.now) (closed_beside g.D.Disk b base s e c.args.transaction c.args.last c.args.undo_next c.args.writer.now c.args.disk.now going);
    })

pub returns-clause-beside : goal.returns-clause-beside
returns-clause-beside g c b base s e going loser =
    subst (λ (x : Bool). EndIfUndoneBesideKept g.D.Disk b base x s e c.args.transaction c.args.last c.args.undo_next c.args.disk.now c.args.writer.now c.args.disk.now (Ok (More c.args.last c.args.undo_next))) (sym c.if-ends.false)
    (record {
      sound = (refl, refl, going.stands);
      stops = none_stops g.D.Disk b base s e c.args.transaction c.args.last c.args.undo_next c.args.writer.now c.args.disk.now (g.met.D.Disk.only_now c.args.disk.now) going;
    })
