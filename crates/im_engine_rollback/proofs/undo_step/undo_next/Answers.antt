use Rattle.std.proofs.Common.{refl}
use Rattle.im_page_writer.proofs.Cited.{err_on, sound_on}
use Rattle.im_restart_undo.proofs.Closed.{closed_beside}
use Rattle.im_engine_rollback.specs.Turns.{Took}
use Rattle.im_engine_rollback.specs.Ends.{may_turn}
use Rattle.im_engine_rollback.proofs.Ends.{full_may, never_capacity, never_failed, never_memory, none_may, not_a_store, turn_behind, turn_more, turn_refused_on}
use Rattle.im_engine_rollback.proofs.Turning.{going_on, going_read, loser_on, read_on, read_stops, took_behind, turn_refused, turn_then}
use Rattle.im_engine_rollback.proofs.undo_step.undo_next.Goals as goal

pub returns-in_err-lsn-clause-outcome : goal.returns-in_err-lsn-clause-outcome
returns-in_err-lsn-clause-outcome g c = turn_refused_on g.D.Disk c.from_residual.result c.from_residual.ensures.1 (turn_more g.D.Disk (none_may may_turn) c.in_err-lsn.ensures.outcome)

pub returns-in_err-lsn-clause-kept : goal.returns-in_err-lsn-clause-kept
returns-in_err-lsn-clause-kept g c b base s e going some =
    let t = c.args.transaction in
    let k = c.in_err-lsn.ensures.kept b base s e c.args.last (closed_beside g.D.Disk b base s e t c.args.last c.args.undo_next c.args.writer.now c.args.disk.now going) in
    let one = turn_refused_on g.D.Disk c.from_residual.result c.from_residual.ensures.1 c.in_err-lsn.ensures.outcome in
    record {
      sound = sound_on c.from_residual.result _ _ c.from_residual.ensures.1 k;
      stops = read_stops g.D.Disk b base s e t c.args.last c.args.undo_next c.args.writer.now c.args.disk.now c.next_key_record.new.disk (g.met.D.Disk.only_now c.args.disk.now) going c.next_key_record.ensures.reads;
      again = never_memory g.D.Disk _ c.from_residual.result refl one;
      short = never_memory g.D.Disk _ c.from_residual.result refl one;
      used_up = never_capacity g.D.Disk _ c.from_residual.result refl one;
      begun = never_failed g.D.Disk _ c.from_residual.result refl one;
    }

pub returns-then-lsn-eq0-clause-outcome : goal.returns-then-lsn-eq0-clause-outcome
returns-then-lsn-eq0-clause-outcome g c = not_a_store g.D.Disk c.in_ok-lsn.ensures.outcome

pub returns-then-lsn-eq0-clause-kept : goal.returns-then-lsn-eq0-clause-kept
returns-then-lsn-eq0-clause-kept g c b base s e going some =
    let k = c.in_ok-lsn.ensures.kept b base s e c.args.last (closed_beside g.D.Disk b base s e c.args.transaction c.args.last c.args.undo_next c.args.writer.now c.args.disk.now going) in
    absurd (some (k.1.none c.if-lsn-eq0.true))

pub returns-in_err-behind-clause-outcome : goal.returns-in_err-behind-clause-outcome
returns-in_err-behind-clause-outcome g c = turn_refused_on g.D.Disk c.from_residual-in_err-behind.result c.from_residual-in_err-behind.ensures.1 (turn_behind g.D.Disk (λ f is. is) c.in_ok-lsn.ensures.outcome c.in_err-behind.ensures.outcome)

pub returns-in_err-behind-clause-kept : goal.returns-in_err-behind-clause-kept
returns-in_err-behind-clause-kept g c b base s e going some =
    let t = c.args.transaction in
    let last = c.args.last in
    let next = c.args.undo_next in
    let w = c.args.writer.now in
    let old = c.args.disk.now in
    let v = c.next_key_record.new.writer in
    let mid = c.next_key_record.new.disk in
    let f = c.in_err-behind.field-0.0 in
    let k = c.in_ok-lsn.ensures.kept b base s e last (closed_beside g.D.Disk b base s e t last next w old going) in
    let only_now = g.met.D.Disk.only_now old in
    let still = going_read g.D.Disk b base s e t last next w v old mid going k.0 in
    let r = turn_refused g.D.Disk b base c.args.ends s e t old v mid (read_on g.D.Disk b base s w v old mid only_now going.stands c.next_key_record.ensures.reads k.0) (read_stops g.D.Disk b base s e t last next w old mid only_now going c.next_key_record.ensures.reads)
    c.undo_at.new.writer c.undo_at.new.disk f (c.in_err-behind.ensures.kept b base s e still (k.1.some c.if-lsn-eq0.false)) in
    record {
      sound = sound_on c.from_residual-in_err-behind.result _ _ c.from_residual-in_err-behind.ensures.1 r.sound;
      stops = r.stops;
      again = err_on c.from_residual-in_err-behind.result f _ c.from_residual-in_err-behind.ensures.1 r.again;
      short = err_on c.from_residual-in_err-behind.result f _ c.from_residual-in_err-behind.ensures.1 r.short;
      used_up = err_on c.from_residual-in_err-behind.result f _ c.from_residual-in_err-behind.ensures.1 r.used_up;
      begun = err_on c.from_residual-in_err-behind.result f _ c.from_residual-in_err-behind.ensures.1 r.begun;
    }

pub returns-clause-outcome : goal.returns-clause-outcome
returns-clause-outcome g c = turn_behind g.D.Disk full_may (turn_behind g.D.Disk (λ f is. is) c.in_ok-lsn.ensures.outcome c.in_ok-behind.ensures.outcome) c.end_or_go_on.ensures.outcome

pub returns-clause-kept : goal.returns-clause-kept
returns-clause-kept g c b base s e going some =
    let t = c.args.transaction in
    let last = c.args.last in
    let next = c.args.undo_next in
    let w = c.args.writer.now in
    let old = c.args.disk.now in
    let v = c.next_key_record.new.writer in
    let mid = c.next_key_record.new.disk in
    let x = c.undo_at.new.writer in
    let late = c.undo_at.new.disk in
    let k = c.in_ok-lsn.ensures.kept b base s e last (closed_beside g.D.Disk b base s e t last next w old going) in
    let only_now = g.met.D.Disk.only_now old in
    let still = going_read g.D.Disk b base s e t last next w v old mid going k.0 in
    let taken = c.in_ok-behind.ensures.kept b base s e still (k.1.some c.if-lsn-eq0.false) in
    let took : Took g.D.Disk b base s e t c.in_ok-behind.behind c.in_ok-behind.next old x late =
    took_behind g.D.Disk b base s e t c.in_ok-behind.behind c.in_ok-behind.next old mid x late (read_stops g.D.Disk b base s e t last next w old mid only_now going c.next_key_record.ensures.reads) taken.sound in
    let loser = loser_on g.D.Disk b base s e t c.in_ok-behind.behind c.in_ok-behind.next c.in_ok-lsn.lsn last next w old old x late going (k.1.some c.if-lsn-eq0.false) took in
    let rest = c.end_or_go_on.ensures.kept b base took.taken.now e (going_on g.D.Disk b base s e t c.in_ok-behind.behind c.in_ok-behind.next old x late took) loser in
    turn_then g.D.Disk b base c.args.ends s e t c.in_ok-behind.behind c.in_ok-behind.next old x late took c.end_or_go_on.new.writer c.end_or_go_on.new.disk c.end_or_go_on.result c.end_or_go_on.ensures.outcome rest
