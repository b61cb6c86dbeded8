use Rattle.std.proofs.Common.{Ok, Err}
use Rattle.im_engine_rollback.proofs.BehindChanges.{close_refused, closing, late_turn, made_turn, some_left, split_closed, split_refused, told_none, turn_as, whole_way}
use Rattle.im_engine_rollback.proofs.Ends.{end_turn, full_may, turn_behind, turn_more, turn_refused_on}
use Rattle.im_engine_rollback.proofs.Turning.{left_covered}
use Rattle.im_restart_undo.proofs.Closed.{closed_beside}
use Rattle.im_engine_rollback.proofs.behind_changes.close_split.Goals as goal

pub returns-in_err-lsn-clause-outcome : goal.returns-in_err-lsn-clause-outcome
returns-in_err-lsn-clause-outcome g c = turn_refused_on g.D.Disk c.from_residual.result c.from_residual.ensures.1 (turn_more g.D.Disk full_may (end_turn g.D.Disk c.requires.working c.in_err-lsn.ensures.outcome))

pub returns-in_err-lsn-clause-kept : goal.returns-in_err-lsn-clause-kept
returns-in_err-lsn-clause-kept g c b base s e stands over goes is =
    let change = c.args.change.now in
    let k = c.in_err-lsn.ensures.kept b base s e stands over in
    close_refused g.D.Disk b base c.args.ends s e change.transaction change.last change.undo_next c.args.disk.now c.args.writer.now c.close.new.writer c.close.new.disk c.in_err-lsn.field-0.0 (end_turn g.D.Disk c.requires.working c.in_err-lsn.ensures.outcome) k.sound
    (left_covered g.D.Disk b base s change.transaction c.args.disk.now c.close.new.disk goes.lawful k.stops) c.from_residual.result c.from_residual.ensures.1

pub returns-in-Ok-clause-outcome : goal.returns-in-Ok-clause-outcome
returns-in-Ok-clause-outcome g c = made_turn g.D.Disk c.in-Ok.sight c.made_of.result c.made_of.ensures.other (turn_behind g.D.Disk (λ f is. is) (end_turn g.D.Disk c.requires.working c.in_ok-lsn.ensures.outcome) c.in-Ok.ensures.outcome)

pub returns-in-Ok-clause-kept : goal.returns-in-Ok-clause-kept
returns-in-Ok-clause-kept g c b base s e stands over goes is =
    let change = c.args.change.now in
    let t = change.transaction in
    let old = c.args.disk.now in
    let v = c.close.new.writer in
    let mid = c.close.new.disk in
    let k = c.in_ok-lsn.ensures.kept b base s e stands over in
    let shut = closing g.D.Disk b base s e c.args.writer.now old stands over change c.requires.end goes c.in_ok-lsn.lsn v mid k.sound in
    let left = left_covered g.D.Disk b base s t old mid goes.lawful k.stops in
    let way = whole_way b change s.log c.requires.end goes in
    let turn = turn_as g.D.Disk b base c.args.ends shut.closed e t c.in_ok-lsn.lsn change.undo_next c.owner.result c.undo_next.result c.none.result v mid c.undo_beside.new.writer c.undo_beside.new.disk (Ok c.in-Ok.sight) c.owner.ensures c.undo_next.ensures
    (c.in-Ok.ensures.kept b base shut.closed e) (closed_beside g.D.Disk b base shut.closed e t c.in_ok-lsn.lsn change.undo_next v mid shut.shut.going)
    (some_left g.D.Disk b base s e t change.last change.undo_next c.in_ok-lsn.lsn shut.closed v mid shut.shut change.images way is)
    (told_none g.D.Disk b base s e t change.last change.undo_next c.in_ok-lsn.lsn shut.closed v mid shut.shut c.none.result c.none.ensures.pages) in
    split_closed g.D.Disk b base s e t change.last change.undo_next c.in_ok-lsn.lsn shut.closed v mid shut.shut change.images way is c.none.result c.none.ensures.pages c.undo_beside.new.writer c.undo_beside.new.disk old left c.args.ends c.in-Ok.sight turn
    c.made_of.result c.made_of.ensures.made c.made_of.ensures.other

pub returns-in-Err-clause-outcome : goal.returns-in-Err-clause-outcome
returns-in-Err-clause-outcome g c = late_turn g.D.Disk c.in-Err.fault c.late.result c.late.ensures.memory c.late.ensures.others (turn_behind g.D.Disk (λ f is. is) (end_turn g.D.Disk c.requires.working c.in_ok-lsn.ensures.outcome) c.in-Err.ensures.outcome)

pub returns-in-Err-clause-kept : goal.returns-in-Err-clause-kept
returns-in-Err-clause-kept g c b base s e stands over goes is =
    let change = c.args.change.now in
    let t = change.transaction in
    let old = c.args.disk.now in
    let v = c.close.new.writer in
    let mid = c.close.new.disk in
    let k = c.in_ok-lsn.ensures.kept b base s e stands over in
    let shut = closing g.D.Disk b base s e c.args.writer.now old stands over change c.requires.end goes c.in_ok-lsn.lsn v mid k.sound in
    let left = left_covered g.D.Disk b base s t old mid goes.lawful k.stops in
    let way = whole_way b change s.log c.requires.end goes in
    let turn = turn_as g.D.Disk b base c.args.ends shut.closed e t c.in_ok-lsn.lsn change.undo_next c.owner.result c.undo_next.result c.none.result v mid c.undo_beside.new.writer c.undo_beside.new.disk (Err c.in-Err.fault) c.owner.ensures c.undo_next.ensures
    (c.in-Err.ensures.kept b base shut.closed e) (closed_beside g.D.Disk b base shut.closed e t c.in_ok-lsn.lsn change.undo_next v mid shut.shut.going)
    (some_left g.D.Disk b base s e t change.last change.undo_next c.in_ok-lsn.lsn shut.closed v mid shut.shut change.images way is)
    (told_none g.D.Disk b base s e t change.last change.undo_next c.in_ok-lsn.lsn shut.closed v mid shut.shut c.none.result c.none.ensures.pages) in
    split_refused g.D.Disk b base s e t change.last change.undo_next c.in_ok-lsn.lsn shut.closed v mid shut.shut change.images way is c.none.result c.none.ensures.pages c.undo_beside.new.writer c.undo_beside.new.disk old left c.args.ends c.in-Err.fault c.late.result
    c.late.ensures.memory c.late.ensures.others turn
