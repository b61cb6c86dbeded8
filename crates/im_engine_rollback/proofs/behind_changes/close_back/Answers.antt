use Rattle.std.proofs.Common.{Bool, sym, subst}
use Rattle.im_page_writer.specs.Outcome.{fault_of}
use Rattle.im_engine_rollback.specs.Ends.{may_close, TurnOutcome}
use Rattle.im_engine_rollback.specs.SplitsBack.{CloseBackKept}
use Rattle.im_engine_rollback.proofs.behind_changes.close_back.Goals as goal

pub returns-then-splits-clause-outcome : goal.returns-then-splits-clause-outcome
returns-then-splits-clause-outcome g c = subst (λ (x : Bool). TurnOutcome g.D.Disk (may_close x) c.args.writer.now c.close_split.new.writer c.close_split.new.disk (fault_of c.close_split.result)) (sym c.if-splits.true) c.close_split.ensures.outcome

pub returns-then-splits-clause-kept : goal.returns-then-splits-clause-kept
returns-then-splits-clause-kept g c b base s e stands over goes is =
    let change = c.args.change.now in
    subst (λ (x : Bool). CloseBackKept g.D.Disk b base x c.args.ends s e change.transaction change.last change.undo_next c.args.disk.now c.close_split.new.writer c.close_split.new.disk c.close_split.result) (sym c.if-splits.true)
    (c.close_split.ensures.kept b base s e stands over goes (is c.if-splits.true))

pub returns-clause-outcome : goal.returns-clause-outcome
returns-clause-outcome g c = subst (λ (x : Bool). TurnOutcome g.D.Disk (may_close x) c.args.writer.now c.close_drop.new.writer c.close_drop.new.disk (fault_of c.close_drop.result)) (sym c.if-splits.false) c.close_drop.ensures.outcome

pub returns-clause-kept : goal.returns-clause-kept
returns-clause-kept g c b base s e stands over goes is =
    let change = c.args.change.now in
    subst (λ (x : Bool). CloseBackKept g.D.Disk b base x c.args.ends s e change.transaction change.last change.undo_next c.args.disk.now c.close_drop.new.writer c.close_drop.new.disk c.close_drop.result) (sym c.if-splits.false)
    (c.close_drop.ensures.kept b base s e stands over goes)
