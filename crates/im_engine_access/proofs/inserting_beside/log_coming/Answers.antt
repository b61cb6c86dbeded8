use Rattle.std.proofs.Common.{refl}
use Rattle.im_page_writer.specs.Outcome.{mild}
use Rattle.im_page_writer.proofs.Outcomes.{changed_none, idle, log_refused, logs_for_more, logs_late}
use Rattle.im_engine_access.proofs.Deletes.{log_works}
use Rattle.im_engine_access.proofs.InsertsBeside.{from, going_now, lacks_numbers, logs_none, logs_put, logs_split, logs_there, may_put_fits, no_numbers, none_more, put_fails, put_logs, split_fails}
use Rattle.im_engine_access.proofs.inserting_beside.log_coming.Goals as goal

pub returns-in-There-clause-outcome : goal.returns-in-There-clause-outcome
returns-in-There-clause-outcome g c = logs_late g.D.Disk (λ e is. is) c.requires.working (changed_none g.D.Disk (λ e is. is) (idle g.D.Disk g.met.D.Disk.only_now c.args.writer.now c.args.disk.now c.requires.working c.requires.ready))

pub returns-in-There-clause-kept : goal.returns-in-There-clause-kept
returns-in-There-clause-kept g c b base s e dense max beside may =
    let a = c.args in
    let t = a.transaction.now in
    logs_there g.D.Disk b base s e t.number t.last t.undo_next a.key.now a.rid dense max beside a.coming a.writer.now a.disk.now may c.requires.owner c.in-There.is

pub returns-in_err-lsn-in-Fits-clause-outcome : goal.returns-in_err-lsn-in-Fits-clause-outcome
returns-in_err-lsn-in-Fits-clause-outcome g c = log_refused g.D.Disk c.from_residual.result c.from_residual.ensures.1 (put_logs g.D.Disk c.requires.working c.in_err-lsn-in-Fits.ensures.outcome)

pub returns-in_err-lsn-in-Fits-clause-kept : goal.returns-in_err-lsn-in-Fits-clause-kept
returns-in_err-lsn-in-Fits-clause-kept g c b base s e dense max beside may =
    let a = c.args in
    let t = a.transaction.now in
    let at = from g.D.Disk b base s e t.number t.last t.undo_next a.key.now a.rid dense max beside a.coming a.writer.now a.disk.now may c.requires.owner in
    put_fails g.D.Disk b base s e t.number t.last t.undo_next a.key.now a.rid dense max beside a.coming a.writer.now a.disk.now may c.requires.owner c.in-Fits.page c.in-Fits.is c.in_err-lsn-in-Fits.field-0.0 c.log_insert.new.writer c.log_insert.new.disk c.from_residual.result c.from_residual.ensures.1
    (no_numbers g.D.Disk refl c.in_err-lsn-in-Fits.ensures.outcome) (log_works g.D.Disk c.requires.working c.in_err-lsn-in-Fits.ensures.outcome)
    (c.in_err-lsn-in-Fits.ensures.kept b base at.now e t.undo_next (may_put_fits g.D.Disk b base s e t.number t.last t.undo_next a.key.now a.rid dense max beside a.coming a.writer.now a.disk.now may c.requires.owner c.in-Fits.page c.in-Fits.is))

pub returns-in_ok-lsn-in-Fits-clause-outcome : goal.returns-in_ok-lsn-in-Fits-clause-outcome
returns-in_ok-lsn-in-Fits-clause-outcome g c = put_logs g.D.Disk c.requires.working c.in_ok-lsn-in-Fits.ensures.outcome

pub returns-in_ok-lsn-in-Fits-clause-kept : goal.returns-in_ok-lsn-in-Fits-clause-kept
returns-in_ok-lsn-in-Fits-clause-kept g c b base s e dense max beside may =
    let a = c.args in
    let t = a.transaction.now in
    let at = from g.D.Disk b base s e t.number t.last t.undo_next a.key.now a.rid dense max beside a.coming a.writer.now a.disk.now may c.requires.owner in
    logs_put g.D.Disk b base s e t.number t.last t.undo_next a.key.now a.rid dense max beside a.coming a.writer.now a.disk.now may c.requires.owner c.in-Fits.page c.in-Fits.is c.in_ok-lsn-in-Fits.lsn c.log_insert.new.writer c.log_insert.new.disk
    (c.in_ok-lsn-in-Fits.ensures.kept b base at.now e t.undo_next (may_put_fits g.D.Disk b base s e t.number t.last t.undo_next a.key.now a.rid dense max beside a.coming a.writer.now a.disk.now may c.requires.owner c.in-Fits.page c.in-Fits.is))

pub returns-in_err-begun-in-Splits-clause-outcome : goal.returns-in_err-begun-in-Splits-clause-outcome
returns-in_err-begun-in-Splits-clause-outcome g c = log_refused g.D.Disk c.from_residual-in_err-begun-in-Splits.result c.from_residual-in_err-begun-in-Splits.ensures.1 (logs_for_more g.D.Disk none_more c.in_err-begun-in-Splits.ensures.outcome)

pub returns-in_err-begun-in-Splits-clause-kept : goal.returns-in_err-begun-in-Splits-clause-kept
returns-in_err-begun-in-Splits-clause-kept g c b base s e dense max beside may =
    let a = c.args in
    let t = a.transaction.now in
    let at = from g.D.Disk b base s e t.number t.last t.undo_next a.key.now a.rid dense max beside a.coming a.writer.now a.disk.now may c.requires.owner in
    let going = going_now g.D.Disk b base s e t.number t.last t.undo_next a.key.now a.rid dense max beside a.coming a.writer.now a.disk.now may c.requires.owner in
    split_fails g.D.Disk b base s e t.number t.last t.undo_next a.key.now a.rid dense max beside a.coming a.writer.now a.disk.now may c.requires.owner c.in-Splits.plan c.in-Splits.leaf c.in-Splits.is c.begin-begun.result c.begin-begun.ensures.images c.begin-begun.ensures.owner c.begin-begun.ensures.count
    c.in_err-begun-in-Splits.field-0.0 c.log_first.new.writer c.log_first.new.disk c.from_residual-in_err-begun-in-Splits.result c.from_residual-in_err-begun-in-Splits.ensures.1 (no_numbers g.D.Disk refl c.in_err-begun-in-Splits.ensures.outcome)
    (c.in_err-begun-in-Splits.ensures.kept b base at.now e going.stands going.over)

pub returns-in_ok-begun-in-Splits-clause-outcome : goal.returns-in_ok-begun-in-Splits-clause-outcome
returns-in_ok-begun-in-Splits-clause-outcome g c = logs_for_more g.D.Disk none_more c.in_ok-begun-in-Splits.ensures.outcome

pub returns-in_ok-begun-in-Splits-clause-kept : goal.returns-in_ok-begun-in-Splits-clause-kept
returns-in_ok-begun-in-Splits-clause-kept g c b base s e dense max beside may =
    let a = c.args in
    let t = a.transaction.now in
    let at = from g.D.Disk b base s e t.number t.last t.undo_next a.key.now a.rid dense max beside a.coming a.writer.now a.disk.now may c.requires.owner in
    let going = going_now g.D.Disk b base s e t.number t.last t.undo_next a.key.now a.rid dense max beside a.coming a.writer.now a.disk.now may c.requires.owner in
    logs_split g.D.Disk b base s e t.number t.last t.undo_next a.key.now a.rid dense max beside a.coming a.writer.now a.disk.now may c.requires.owner c.in-Splits.plan c.in-Splits.leaf c.in-Splits.is c.begin-begun.result c.begin-begun.ensures.images c.begin-begun.ensures.owner c.begin-begun.ensures.count
    c.in_ok-begun-in-Splits.begun c.log_first.new.writer c.log_first.new.disk (c.in_ok-begun-in-Splits.ensures.kept b base at.now e going.stands going.over) c.in_ok-begun-in-Splits.ensures.plan.3

pub returns-in-UsedUp-clause-outcome : goal.returns-in-UsedUp-clause-outcome
returns-in-UsedUp-clause-outcome g c = lacks_numbers g.D.Disk {m = mild} (idle g.D.Disk g.met.D.Disk.only_now c.args.writer.now c.args.disk.now c.requires.working c.requires.ready)

pub returns-in-UsedUp-clause-kept : goal.returns-in-UsedUp-clause-kept
returns-in-UsedUp-clause-kept g c b base s e dense max beside may =
    let a = c.args in
    let t = a.transaction.now in
    logs_none g.D.Disk b base s e t.number t.last t.undo_next a.key.now a.rid dense max beside a.coming a.writer.now a.disk.now may c.requires.owner c.in-UsedUp.is
