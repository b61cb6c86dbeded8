use Rattle.im_page_writer.proofs.Outcomes.{changed_none, idle, log_refused}
use Rattle.im_engine_access.proofs.DeletesBeside.{from, logs_dropping, logs_gone, logs_taken, may_take_last, may_take_one, take_fails}
use Rattle.im_engine_access.proofs.deleting_beside.log_leaving.Goals as goal

pub returns-in-Gone-clause-outcome : goal.returns-in-Gone-clause-outcome
returns-in-Gone-clause-outcome g c = changed_none g.D.Disk (λ e is. is) (idle g.D.Disk g.met.D.Disk.only_now c.args.writer.now c.args.disk.now c.requires.working c.requires.ready)

pub returns-in-Gone-clause-kept : goal.returns-in-Gone-clause-kept
returns-in-Gone-clause-kept g c b base s e beside may =
    let a = c.args in
    let t = a.transaction.now in
    logs_gone g.D.Disk b base s e t.number t.last t.undo_next a.key.now beside a.leaving a.writer.now a.disk.now may c.requires.owner c.in-Gone.is

pub returns-in_err-lsn-in-Takes-clause-outcome : goal.returns-in_err-lsn-in-Takes-clause-outcome
returns-in_err-lsn-in-Takes-clause-outcome g c = log_refused g.D.Disk c.from_residual.result c.from_residual.ensures.1 c.in_err-lsn-in-Takes.ensures.outcome

pub returns-in_err-lsn-in-Takes-clause-kept : goal.returns-in_err-lsn-in-Takes-clause-kept
returns-in_err-lsn-in-Takes-clause-kept g c b base s e beside may =
    let a = c.args in
    let t = a.transaction.now in
    let at = from g.D.Disk b base s e t.number t.last t.undo_next a.key.now beside a.leaving a.writer.now a.disk.now may c.requires.owner in
    take_fails g.D.Disk b base s e t.number t.last t.undo_next a.key.now beside a.leaving a.writer.now a.disk.now may c.requires.owner c.in_err-lsn-in-Takes.field-0.0 c.in-Takes.page c.in-Takes.rid c.log_delete.new.writer c.log_delete.new.disk c.from_residual.result c.from_residual.ensures.1
    (c.in_err-lsn-in-Takes.ensures.kept b base at.now e t.undo_next (may_take_one g.D.Disk b base s e t.number t.last t.undo_next a.key.now beside a.leaving a.writer.now a.disk.now may c.requires.owner c.in-Takes.page c.in-Takes.rid c.in-Takes.is))

pub returns-in_ok-lsn-in-Takes-clause-kept : goal.returns-in_ok-lsn-in-Takes-clause-kept
returns-in_ok-lsn-in-Takes-clause-kept g c b base s e beside may =
    let a = c.args in
    let t = a.transaction.now in
    let at = from g.D.Disk b base s e t.number t.last t.undo_next a.key.now beside a.leaving a.writer.now a.disk.now may c.requires.owner in
    logs_taken g.D.Disk b base s e t.number t.last t.undo_next a.key.now beside a.leaving a.writer.now a.disk.now may c.requires.owner c.in-Takes.page c.in-Takes.rid c.in-Takes.is c.in_ok-lsn-in-Takes.lsn c.log_delete.new.writer c.log_delete.new.disk
    (c.in_ok-lsn-in-Takes.ensures.kept b base at.now e t.undo_next (may_take_one g.D.Disk b base s e t.number t.last t.undo_next a.key.now beside a.leaving a.writer.now a.disk.now may c.requires.owner c.in-Takes.page c.in-Takes.rid c.in-Takes.is))

pub returns-in_err-lsn-in-Empties-clause-outcome : goal.returns-in_err-lsn-in-Empties-clause-outcome
returns-in_err-lsn-in-Empties-clause-outcome g c = log_refused g.D.Disk c.from_residual-in_err-lsn-in-Empties.result c.from_residual-in_err-lsn-in-Empties.ensures.1 c.in_err-lsn-in-Empties.ensures.outcome

pub returns-in_err-lsn-in-Empties-clause-kept : goal.returns-in_err-lsn-in-Empties-clause-kept
returns-in_err-lsn-in-Empties-clause-kept g c b base s e beside may =
    let a = c.args in
    let t = a.transaction.now in
    let at = from g.D.Disk b base s e t.number t.last t.undo_next a.key.now beside a.leaving a.writer.now a.disk.now may c.requires.owner in
    take_fails g.D.Disk b base s e t.number t.last t.undo_next a.key.now beside a.leaving a.writer.now a.disk.now may c.requires.owner c.in_err-lsn-in-Empties.field-0.0 c.in-Empties.page c.in-Empties.rid c.log_delete-in-Empties.new.writer c.log_delete-in-Empties.new.disk c.from_residual-in_err-lsn-in-Empties.result c.from_residual-in_err-lsn-in-Empties.ensures.1
    (c.in_err-lsn-in-Empties.ensures.kept b base at.now e t.undo_next (may_take_last g.D.Disk b base s e t.number t.last t.undo_next a.key.now beside a.leaving a.writer.now a.disk.now may c.requires.owner c.in-Empties.page c.in-Empties.rid c.in-Empties.plan c.in-Empties.is))

pub returns-in_ok-lsn-in-Empties-clause-kept : goal.returns-in_ok-lsn-in-Empties-clause-kept
returns-in_ok-lsn-in-Empties-clause-kept g c b base s e beside may =
    let a = c.args in
    let t = a.transaction.now in
    let at = from g.D.Disk b base s e t.number t.last t.undo_next a.key.now beside a.leaving a.writer.now a.disk.now may c.requires.owner in
    logs_dropping g.D.Disk b base s e t.number t.last t.undo_next a.key.now beside a.leaving a.writer.now a.disk.now may c.requires.owner c.in-Empties.page c.in-Empties.rid c.in-Empties.plan c.in-Empties.is c.in_ok-lsn-in-Empties.lsn c.log_delete-in-Empties.new.writer c.log_delete-in-Empties.new.disk
    (c.in_ok-lsn-in-Empties.ensures.kept b base at.now e t.undo_next (may_take_last g.D.Disk b base s e t.number t.last t.undo_next a.key.now beside a.leaving a.writer.now a.disk.now may c.requires.owner c.in-Empties.page c.in-Empties.rid c.in-Empties.plan c.in-Empties.is)) c.begin.result c.begin.ensures.images c.begin.ensures.owner c.begin.ensures.count
