use Rattle.std.proofs.Common.{refl}
use Rattle.im_log_record.specs.Entry.{Entry, view, transaction_of}
use Rattle.im_page_writer.specs.Outcome.{mild}
use Rattle.im_page_writer.proofs.Outcomes.{late_behind, log_refused, logs_both, logs_for_more, no_page_for}
use Rattle.im_restart_undo.proofs.Behind.{no_split, back_behind_split, refused_behind_split}
use Rattle.im_restart_undo.proofs.logging.log_behind_split.Goals as goal

pub returns-in_err-lsn-clause-outcome : goal.returns-in_err-lsn-clause-outcome
returns-in_err-lsn-clause-outcome g c = log_refused g.D.Disk c.from_residual.result c.from_residual.ensures.1 c.in_err-lsn.ensures.outcome

pub returns-in_err-lsn-clause-kept : goal.returns-in_err-lsn-clause-kept
returns-in_err-lsn-clause-kept g c b base s e going to splits =
    let entry : Entry = view c.args.«record».now in
    no_split g.D.Disk b base s e (transaction_of entry) entry c.args.disk.now c.args.last c.args.undo_next c.args.writer.now going to c.args.plan.now splits c.transaction.result c.transaction.ensures c.run.new.writer c.run.new.disk
    c.in_err-lsn.field-0.0 c.from_residual.result c.from_residual.ensures.1 c.in_err-lsn.ensures.outcome (c.in_err-lsn.ensures.kept b base s e)

pub returns-in-Ok-clause-outcome : goal.returns-in-Ok-clause-outcome
returns-in-Ok-clause-outcome g c = logs_both g.D.Disk c.in_ok-lsn.ensures.outcome c.in-Ok.ensures.outcome

pub returns-in-Ok-clause-kept : goal.returns-in-Ok-clause-kept
returns-in-Ok-clause-kept g c b base s e going to splits =
    let entry : Entry = view c.args.«record».now in
    back_behind_split g.D.Disk b base s e (transaction_of entry) entry c.args.disk.now c.args.last c.args.undo_next c.args.writer.now going to c.args.plan.now splits c.transaction.result c.transaction.ensures c.run.new.writer c.run.new.disk
    c.in_ok-lsn.lsn (c.in_ok-lsn.ensures.kept b base s e) c.compensate.new.writer c.compensate.new.disk c.in-Ok.lsn (λ now goes next takes out. c.in-Ok.ensures.kept b base now e c.args.undo_next goes next takes out)

pub returns-in-Err-clause-outcome : goal.returns-in-Err-clause-outcome
returns-in-Err-clause-outcome g c = late_behind g.D.Disk c.in_ok-lsn.ensures.outcome (logs_for_more g.D.Disk (no_page_for mild refl) c.in-Err.ensures.outcome) c.late.ensures.memory c.late.ensures.others

pub returns-in-Err-clause-kept : goal.returns-in-Err-clause-kept
returns-in-Err-clause-kept g c b base s e going to splits =
    let entry : Entry = view c.args.«record».now in
    refused_behind_split g.D.Disk b base s e (transaction_of entry) entry c.args.disk.now c.args.last c.args.undo_next c.args.writer.now going to c.args.plan.now splits c.transaction.result c.transaction.ensures c.run.new.writer c.run.new.disk
    c.in_ok-lsn.lsn (c.in_ok-lsn.ensures.kept b base s e) c.compensate.new.writer c.compensate.new.disk c.in-Err.fault c.late.result c.in-Err.ensures.outcome c.late.ensures.memory c.late.ensures.others
    (λ now goes next takes out. c.in-Err.ensures.kept b base now e c.args.undo_next goes next takes out)
