use Rattle.im_page_writer.proofs.Outcomes.{sound_on}
use Rattle.im_restart_undo.proofs.Closed.{closed_beside}
use Rattle.im_engine_rollback.proofs.BehindChanges.{closed_loser, closing, drop_closed, end_as, full_never}
use Rattle.im_engine_rollback.proofs.Ends.{end_turn, turn_behind, turn_refused_on}
use Rattle.im_engine_rollback.proofs.Turning.{left_covered}
use Rattle.im_engine_rollback.proofs.behind_changes.close_drop.Goals as goal

pub returns-in_err-lsn-clause-outcome : goal.returns-in_err-lsn-clause-outcome
returns-in_err-lsn-clause-outcome g c = turn_refused_on g.D.Disk c.from_residual.result c.from_residual.ensures.1 (end_turn g.D.Disk c.requires.working c.in_err-lsn.ensures.outcome)

pub returns-in_err-lsn-clause-kept : goal.returns-in_err-lsn-clause-kept
returns-in_err-lsn-clause-kept g c b base s e stands over goes =
    let change = c.args.change.now in
    let k = c.in_err-lsn.ensures.kept b base s e stands over in
    record {
      sound = sound_on c.from_residual.result _ _ c.from_residual.ensures.1 k.sound;
      stops = left_covered g.D.Disk b base s change.transaction c.args.disk.now c.close.new.disk goes.lawful k.stops;
      never = full_never g.D.Disk c.from_residual.result (turn_refused_on g.D.Disk c.from_residual.result c.from_residual.ensures.1 (end_turn g.D.Disk c.requires.working c.in_err-lsn.ensures.outcome));
    }

pub returns-clause-outcome : goal.returns-clause-outcome
returns-clause-outcome g c = turn_behind g.D.Disk (λ f is. is) (end_turn g.D.Disk c.requires.working c.in_ok-lsn.ensures.outcome) c.end_or_go_on.ensures.outcome

pub returns-clause-kept : goal.returns-clause-kept
returns-clause-kept g c b base s e stands over goes =
    let change = c.args.change.now in
    let t = change.transaction in
    let old = c.args.disk.now in
    let v = c.close.new.writer in
    let mid = c.close.new.disk in
    let k = c.in_ok-lsn.ensures.kept b base s e stands over in
    let shut = closing g.D.Disk b base s e c.args.writer.now old stands over change c.requires.end goes c.in_ok-lsn.lsn v mid k.sound in
    let left = left_covered g.D.Disk b base s t old mid goes.lawful k.stops in
    let end = end_as g.D.Disk b base c.args.ends shut.closed e t c.in_ok-lsn.lsn change.undo_next c.owner.result c.undo_next.result v mid c.end_or_go_on.new.writer c.end_or_go_on.new.disk c.end_or_go_on.result c.owner.ensures c.undo_next.ensures
    (c.end_or_go_on.ensures.beside b base shut.closed e) (closed_beside g.D.Disk b base shut.closed e t c.in_ok-lsn.lsn change.undo_next v mid shut.shut.going)
    (closed_loser g.D.Disk b base s e t change.last change.undo_next c.in_ok-lsn.lsn shut.closed v mid shut.shut) in
    drop_closed g.D.Disk b base s e t change.last change.undo_next c.in_ok-lsn.lsn shut.closed v mid shut.shut c.args.ends old left v c.end_or_go_on.new.writer c.end_or_go_on.new.disk c.end_or_go_on.result c.end_or_go_on.ensures.outcome end
