use Rattle.std.proofs.Common.{None, refl}
use Rattle.im_page_writer.specs.Outcome.{mild}
use Rattle.im_page_writer.proofs.Outcomes.{changed_none, idle, log_refused, logs_for_more, logs_late, no_page_for}
use Rattle.im_smo_split.specs.Kept.{mild_to_split}
use Rattle.im_smo_split.proofs.Reasons.{mild_splits}
use Rattle.im_engine_access.proofs.Inserts.{comes_first, first_refused, first_room, first_way, may_split, none_left, none_put, numbers_gone, once_put, put_never, split_refused}
use Rattle.im_engine_access.proofs.InsertsBeside.{no_numbers}
use Rattle.im_engine_access.proofs.inserting.log_at_once.Goals as goal

pub returns-in-There-clause-outcome : goal.returns-in-There-clause-outcome
returns-in-There-clause-outcome g c = logs_late g.D.Disk {m = mild} (mild_splits None) c.requires.working (changed_none g.D.Disk {n = mild} (λ e is. is) (idle g.D.Disk g.met.D.Disk.only_now c.args.writer.now c.args.disk.now c.requires.working c.requires.ready))

pub returns-in-There-clause-kept : goal.returns-in-There-clause-kept
returns-in-There-clause-kept g c b base s e dense max beside may =
    let a = c.args in
    let t = a.transaction.now in
    none_put g.D.Disk b base s e t.number t.last t.undo_next a.key.now dense max beside a.coming a.writer.now a.disk.now may c.requires.owner a.rid c.in-There.is

pub returns-in_err-noted-in-Fits-clause-outcome : goal.returns-in_err-noted-in-Fits-clause-outcome
returns-in_err-noted-in-Fits-clause-outcome g c =
    log_refused g.D.Disk c.from_residual.result c.from_residual.ensures.1 (logs_late g.D.Disk (no_page_for (mild_to_split None) refl) c.requires.working c.in_err-noted-in-Fits.ensures.outcome)

pub returns-in_err-noted-in-Fits-clause-kept : goal.returns-in_err-noted-in-Fits-clause-kept
returns-in_err-noted-in-Fits-clause-kept g c b base s e dense max beside may =
    let a = c.args in
    let t = a.transaction.now in
    first_refused g.D.Disk b base s e t.number t.last t.undo_next a.key.now dense max beside a.coming a.writer.now a.disk.now may c.requires.owner c.in-Fits.page c.in-Fits.is a.rid c.in_err-noted-in-Fits.field-0.0 c.put.new.writer c.put.new.disk c.from_residual.result c.from_residual.ensures.1
    (no_numbers g.D.Disk refl c.in_err-noted-in-Fits.ensures.outcome) (put_never g.D.Disk c.requires.working c.in_err-noted-in-Fits.ensures.outcome)
    (c.in_err-noted-in-Fits.ensures.kept b base s e t.undo_next dense max (comes_first g.D.Disk b base s e t.number t.last t.undo_next a.key.now dense max beside a.coming a.writer.now a.disk.now may c.requires.owner c.in-Fits.page c.in-Fits.is) (first_way g.D.Disk b base s e t.number t.last t.undo_next a.key.now dense max beside a.coming a.writer.now a.disk.now may c.requires.owner c.in-Fits.page c.in-Fits.is) (first_room g.D.Disk b base s e t.number t.last t.undo_next a.key.now dense max beside a.coming a.writer.now a.disk.now may c.requires.owner c.in-Fits.page c.in-Fits.is))

pub returns-in_ok-noted-in-Fits-clause-outcome : goal.returns-in_ok-noted-in-Fits-clause-outcome
returns-in_ok-noted-in-Fits-clause-outcome g c = logs_late g.D.Disk (no_page_for (mild_to_split None) refl) c.requires.working c.in_ok-noted-in-Fits.ensures.outcome

pub returns-in_ok-noted-in-Fits-clause-kept : goal.returns-in_ok-noted-in-Fits-clause-kept
returns-in_ok-noted-in-Fits-clause-kept g c b base s e dense max beside may =
    let a = c.args in
    let t = a.transaction.now in
    once_put g.D.Disk b base s e t.number a.key.now a.rid dense max may.since c.put.new.writer c.put.new.disk c.in_ok-noted-in-Fits.noted
    (c.in_ok-noted-in-Fits.ensures.kept b base s e t.undo_next dense max (comes_first g.D.Disk b base s e t.number t.last t.undo_next a.key.now dense max beside a.coming a.writer.now a.disk.now may c.requires.owner c.in-Fits.page c.in-Fits.is) (first_way g.D.Disk b base s e t.number t.last t.undo_next a.key.now dense max beside a.coming a.writer.now a.disk.now may c.requires.owner c.in-Fits.page c.in-Fits.is) (first_room g.D.Disk b base s e t.number t.last t.undo_next a.key.now dense max beside a.coming a.writer.now a.disk.now may c.requires.owner c.in-Fits.page c.in-Fits.is))

pub returns-in_err-after-in-Splits-clause-outcome : goal.returns-in_err-after-in-Splits-clause-outcome
returns-in_err-after-in-Splits-clause-outcome g c =
    log_refused g.D.Disk c.from_residual-in_err-after-in-Splits.result c.from_residual-in_err-after-in-Splits.ensures.1 (logs_for_more g.D.Disk (mild_splits None) c.in_err-after-in-Splits.ensures.outcome)

pub returns-in_err-after-in-Splits-clause-kept : goal.returns-in_err-after-in-Splits-clause-kept
returns-in_err-after-in-Splits-clause-kept g c b base s e dense max beside may =
    let a = c.args in
    let t = a.transaction.now in
    split_refused g.D.Disk b base s e t.number t.last t.undo_next a.key.now dense max beside a.coming a.writer.now a.disk.now may c.requires.owner c.in-Splits.plan c.in-Splits.leaf c.in-Splits.is c.begin-begun.result.change c.begin-begun.ensures.images.0 c.begin-begun.ensures.owner a.rid c.in_err-after-in-Splits.field-0.0 c.split_and_put.new.writer c.split_and_put.new.disk
    c.from_residual-in_err-after-in-Splits.result c.from_residual-in_err-after-in-Splits.ensures.1 (no_numbers g.D.Disk refl c.in_err-after-in-Splits.ensures.outcome)
    (c.in_err-after-in-Splits.ensures.kept b base s e dense max (may_split g.D.Disk b base s e t.number t.last t.undo_next a.key.now dense max beside a.coming a.writer.now a.disk.now may c.requires.owner c.in-Splits.plan c.in-Splits.leaf c.in-Splits.is c.begin-begun.result.change c.begin-begun.ensures.images.0 c.begin-begun.ensures.owner))

pub returns-in_ok-after-in-Splits-clause-outcome : goal.returns-in_ok-after-in-Splits-clause-outcome
returns-in_ok-after-in-Splits-clause-outcome g c = logs_for_more g.D.Disk (mild_splits None) c.in_ok-after-in-Splits.ensures.outcome

pub returns-in_ok-after-in-Splits-clause-kept : goal.returns-in_ok-after-in-Splits-clause-kept
returns-in_ok-after-in-Splits-clause-kept g c b base s e dense max beside may =
    let a = c.args in
    let t = a.transaction.now in
    once_put g.D.Disk b base s e t.number a.key.now a.rid dense max may.since c.split_and_put.new.writer c.split_and_put.new.disk c.in_ok-after-in-Splits.after
    (c.in_ok-after-in-Splits.ensures.kept b base s e dense max (may_split g.D.Disk b base s e t.number t.last t.undo_next a.key.now dense max beside a.coming a.writer.now a.disk.now may c.requires.owner c.in-Splits.plan c.in-Splits.leaf c.in-Splits.is c.begin-begun.result.change c.begin-begun.ensures.images.0 c.begin-begun.ensures.owner))

pub returns-in-UsedUp-clause-outcome : goal.returns-in-UsedUp-clause-outcome
returns-in-UsedUp-clause-outcome g c = none_left g.D.Disk {m = mild_to_split None} (idle g.D.Disk g.met.D.Disk.only_now c.args.writer.now c.args.disk.now c.requires.working c.requires.ready)

pub returns-in-UsedUp-clause-kept : goal.returns-in-UsedUp-clause-kept
returns-in-UsedUp-clause-kept g c b base s e dense max beside may =
    let a = c.args in
    let t = a.transaction.now in
    numbers_gone g.D.Disk b base s e t.number t.last t.undo_next a.key.now dense max beside a.coming a.writer.now a.disk.now may c.requires.owner a.rid c.in-UsedUp.is
