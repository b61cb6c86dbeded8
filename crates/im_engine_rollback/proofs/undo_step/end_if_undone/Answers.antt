use Rattle.std.proofs.Common.{true, Ok, refl}
use Rattle.im_page_writer.proofs.Outcomes.{sound_on}
use Rattle.im_restart_undo.proofs.Growth.{left_both}
use Rattle.im_engine_rollback.specs.declared.undone.Undone.TheVariants.{More, Ended}
use Rattle.im_engine_rollback.specs.Ends.{may_be_full}
use Rattle.im_engine_rollback.proofs.Ends.{end_turn, none_may, turn_behind, turn_more, turn_refused_on}
use Rattle.im_engine_rollback.proofs.Readings.{net_none, net_some}
use Rattle.im_restart_undo.proofs.Closed.{closed_beside}
use Rattle.im_engine_rollback.proofs.Turning.{beside_read, end_closed, read_stops_beside}
use Rattle.im_engine_rollback.proofs.undo_step.end_if_undone.Goals as goal

pub returns-in_err-next-clause-outcome : goal.returns-in_err-next-clause-outcome
returns-in_err-next-clause-outcome g c = turn_refused_on g.D.Disk c.from_residual.result c.from_residual.ensures.1 (turn_more g.D.Disk (none_may may_be_full) c.in_err-next.ensures.outcome)

pub returns-in_err-next-clause-beside : goal.returns-in_err-next-clause-beside
returns-in_err-next-clause-beside g c b base s e going loser =
    let t = c.args.transaction in
    let k = c.in_err-next.ensures.kept b base s e c.args.last going in
    record {
      sound = sound_on c.from_residual.result _ _ c.from_residual.ensures.1 k;
      stops = read_stops_beside g.D.Disk b base s e t c.args.last c.args.undo_next c.args.writer.now c.args.disk.now c.next_key_record.new.disk (g.met.D.Disk.only_now c.args.disk.now) going c.next_key_record.ensures.reads;
    }

pub returns-in_err-log_end-clause-outcome : goal.returns-in_err-log_end-clause-outcome
returns-in_err-log_end-clause-outcome g c =
    turn_refused_on g.D.Disk c.from_residual-in_err-log_end.result c.from_residual-in_err-log_end.ensures.1
    (turn_behind g.D.Disk (λ f is. is) c.in_ok-next.ensures.outcome (end_turn g.D.Disk c.in_ok-next.ensures.outcome.ends.works c.in_err-log_end.ensures.outcome))

pub returns-in_err-log_end-clause-beside : goal.returns-in_err-log_end-clause-beside
returns-in_err-log_end-clause-beside g c b base s e going loser =
    let t = c.args.transaction in
    let mid = c.next_key_record.new.disk in
    let v = c.next_key_record.new.writer in
    let k = c.in_ok-next.ensures.kept b base s e c.args.last going in
    let none = k.1.none c.if-next-eq0.true in
    let still = beside_read g.D.Disk b base s e t c.args.last c.args.undo_next c.args.writer.now v c.args.disk.now mid going k.0 in
    let r = c.in_err-log_end.ensures.kept b base s e c.args.undo_next still loser none in
    record {
      sound = sound_on c.from_residual-in_err-log_end.result _ _ c.from_residual-in_err-log_end.ensures.1 r.sound;
      stops = left_both g.D.Disk b base s t c.args.disk.now mid c.log_end.new.disk
          (read_stops_beside g.D.Disk b base s e t c.args.last c.args.undo_next c.args.writer.now c.args.disk.now mid (g.met.D.Disk.only_now c.args.disk.now) going c.next_key_record.ensures.reads) r.stops;
    }

pub returns-then-next-eq0-clause-outcome : goal.returns-then-next-eq0-clause-outcome
returns-then-next-eq0-clause-outcome g c = turn_behind g.D.Disk (λ f is. is) c.in_ok-next.ensures.outcome (end_turn g.D.Disk c.in_ok-next.ensures.outcome.ends.works c.in_ok-log_end.ensures.outcome)

pub returns-then-next-eq0-clause-beside : goal.returns-then-next-eq0-clause-beside
returns-then-next-eq0-clause-beside g c b base s e going loser =
    let t = c.args.transaction in
    let mid = c.next_key_record.new.disk in
    let v = c.next_key_record.new.writer in
    let k = c.in_ok-next.ensures.kept b base s e c.args.last going in
    let none = k.1.none c.if-next-eq0.true in
    let still = beside_read g.D.Disk b base s e t c.args.last c.args.undo_next c.args.writer.now v c.args.disk.now mid going k.0 in
    let r = c.in_ok-log_end.ensures.kept b base s e c.args.undo_next still loser none in
    record {
      sound = (net_none t s.log none, r.sound);
      stops = left_both g.D.Disk b base s t c.args.disk.now mid c.log_end.new.disk
          (read_stops_beside g.D.Disk b base s e t c.args.last c.args.undo_next c.args.writer.now c.args.disk.now mid (g.met.D.Disk.only_now c.args.disk.now) going c.next_key_record.ensures.reads) r.stops;
    }

pub returns-clause-outcome : goal.returns-clause-outcome
returns-clause-outcome g c = turn_more g.D.Disk (none_may may_be_full) c.in_ok-next.ensures.outcome

pub returns-clause-beside : goal.returns-clause-beside
returns-clause-beside g c b base s e going loser =
    let t = c.args.transaction in
    let k = c.in_ok-next.ensures.kept b base s e c.args.last going in
    record {
      sound = (refl, refl, net_some t c.in_ok-next.next s.log (k.1.some c.if-next-eq0.false), k.0);
      stops = read_stops_beside g.D.Disk b base s e t c.args.last c.args.undo_next c.args.writer.now c.args.disk.now c.next_key_record.new.disk (g.met.D.Disk.only_now c.args.disk.now) going c.next_key_record.ensures.reads;
    }

pub returns-in_err-next-clause-kept : goal.returns-in_err-next-clause-kept
returns-in_err-next-clause-kept g c b base s e going loser =
    end_closed g.D.Disk b base true s e c.args.transaction c.args.last c.args.undo_next c.args.disk.now c.next_key_record.new.writer c.next_key_record.new.disk c.from_residual.result going.can.closed
    (returns-in_err-next-clause-beside g c b base s e (closed_beside g.D.Disk b base s e c.args.transaction c.args.last c.args.undo_next c.args.writer.now c.args.disk.now going) loser)

pub returns-in_err-log_end-clause-kept : goal.returns-in_err-log_end-clause-kept
returns-in_err-log_end-clause-kept g c b base s e going loser =
    end_closed g.D.Disk b base true s e c.args.transaction c.args.last c.args.undo_next c.args.disk.now c.log_end.new.writer c.log_end.new.disk c.from_residual-in_err-log_end.result going.can.closed
    (returns-in_err-log_end-clause-beside g c b base s e (closed_beside g.D.Disk b base s e c.args.transaction c.args.last c.args.undo_next c.args.writer.now c.args.disk.now going) loser)

pub returns-then-next-eq0-clause-kept : goal.returns-then-next-eq0-clause-kept
returns-then-next-eq0-clause-kept g c b base s e going loser =
    end_closed g.D.Disk b base true s e c.args.transaction c.args.last c.args.undo_next c.args.disk.now c.log_end.new.writer c.log_end.new.disk (Ok Ended) going.can.closed
    (returns-then-next-eq0-clause-beside g c b base s e (closed_beside g.D.Disk b base s e c.args.transaction c.args.last c.args.undo_next c.args.writer.now c.args.disk.now going) loser)

pub returns-clause-kept : goal.returns-clause-kept
returns-clause-kept g c b base s e going loser =
    end_closed g.D.Disk b base true s e c.args.transaction c.args.last c.args.undo_next c.args.disk.now c.next_key_record.new.writer c.next_key_record.new.disk (Ok (More c.args.last c.args.undo_next)) going.can.closed
    (returns-clause-beside g c b base s e (closed_beside g.D.Disk b base s e c.args.transaction c.args.last c.args.undo_next c.args.writer.now c.args.disk.now going) loser)
