use Rattle.im_log_record.specs.Entry.{Entry, view, transaction_of}
use Rattle.im_page_writer.specs.Outcome.{pages_of}
use Rattle.im_page_writer.proofs.Outcomes.{changed_none, log_refused, logs_for_more, logs_late, logs_then}
use Rattle.im_smo_pages.proofs.Goings.{take_mildly}
use Rattle.im_restart_undo.proofs.Behind.{back_closed}
use Rattle.im_restart_undo.proofs.Composing.{plan_refused}
use Rattle.im_restart_undo.proofs.Growth.{going_ready, going_tree}
use Rattle.im_restart_undo.proofs.undo.undo_one.Goals as goal

pub returns-in_err-back-clause-outcome : goal.returns-in_err-back-clause-outcome
returns-in_err-back-clause-outcome g c = log_refused g.D.Disk c.from_residual.result c.from_residual.ensures.1 (logs_late g.D.Disk (λ e is. is) c.requires.working (changed_none g.D.Disk (λ e is. is) c.in_err-back.ensures.outcome))

pub returns-in_err-back-clause-kept : goal.returns-in_err-back-clause-kept
returns-in_err-back-clause-kept g c b base s e going to =
    let entry : Entry = view c.args.«record».now in
    let t = transaction_of entry in
    plan_refused g.D.Disk b base s e t entry c.args.disk.now c.plan_alone.new.writer c.plan_alone.new.disk c.args.last c.args.undo_next c.args.writer.now c.in_err-back.field-0.0 c.from_residual.result going
    (c.in_err-back.ensures.kept (pages_of s) (going_tree g.D.Disk b base s e t c.args.last c.args.undo_next c.args.writer.now c.args.disk.now going)) c.in_err-back.ensures.outcome c.from_residual.ensures.1

pub returns-clause-outcome : goal.returns-clause-outcome
returns-clause-outcome g c = logs_for_more g.D.Disk take_mildly (logs_then g.D.Disk c.in_ok-back.ensures.outcome c.log_back.ensures.outcome)

pub returns-clause-kept : goal.returns-clause-kept
returns-clause-kept g c b base s e going to =
    let entry : Entry = view c.args.«record».now in
    let t = transaction_of entry in
    let v = c.args.writer.now in
    let old = c.args.disk.now in
    let one = c.in_ok-back.ensures.outcome in
    let at = one.ends.goes b base s going.stands (going_ready g.D.Disk b base s e t c.args.last c.args.undo_next v old going) in
    let planned = c.in_ok-back.ensures.kept (pages_of s) (going_tree g.D.Disk b base s e t c.args.last c.args.undo_next v old going) in
    back_closed g.D.Disk b base s e t entry old c.args.last c.args.undo_next v going to c.in_ok-back.back c.plan_alone.new.writer c.plan_alone.new.disk at planned.sound c.log_back.new.writer c.log_back.new.disk c.log_back.result
    c.log_back.ensures.outcome (λ now. c.log_back.ensures.kept b base now e)
