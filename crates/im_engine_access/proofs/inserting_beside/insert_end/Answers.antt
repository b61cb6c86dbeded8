use Rattle.std.proofs.Common.{ℕ, sym, subst}
use Rattle.im_base_types.specs.Records.{InsertKey}
use Rattle.im_page_writer.specs.Outcome.{fault_of}
use Rattle.im_page_writer.proofs.Cited.{log_refused, logs_late, sound_on, err_on}
use Rattle.im_engine_access.specs.KeyLogs.{KeyLogKept, MayPut}
use Rattle.im_engine_access.proofs.Deletes.{log_works}
use Rattle.im_engine_access.proofs.InsertsBeside.{end_logs, put_works}
use Rattle.im_engine_access.proofs.OwnChanges.{close_refused, insert_ended, may_put_end, mid}
use Rattle.im_engine_access.proofs.inserting_beside.insert_end.Goals as goal

pub returns-in_err-last-clause-outcome : goal.returns-in_err-last-clause-outcome
returns-in_err-last-clause-outcome g c = log_refused g.D.Disk c.from_residual.result c.from_residual.ensures.1 (logs_late g.D.Disk (λ e is. is) c.requires.working c.in_err-last.ensures.outcome)

pub returns-in_err-last-clause-kept : goal.returns-in_err-last-clause-kept
returns-in_err-last-clause-kept g c b base s e may =
    let a = c.args in
    let k = c.in_err-last.ensures.kept b base s e may.stands may.over in
    record {
      sound = sound_on c.from_residual.result _ _ c.from_residual.ensures.1 k.sound;
      stops = close_refused g.D.Disk b base s e a.change.now a.page a.key.now a.writer.now a.disk.now may a.change.now.owned c.requires.end c.close.new.disk k.stops;
    }

pub returns-clause-outcome : goal.returns-clause-outcome
returns-clause-outcome g c = end_logs g.D.Disk (fault_of c.log_insert.result) c.in_ok-last.ensures.outcome c.log_insert.ensures.outcome

pub returns-clause-kept : goal.returns-clause-kept
returns-clause-kept g c b base s e may =
    let a = c.args in
    let k = c.in_ok-last.ensures.kept b base s e may.stands may.over in
    let w = c.close.new.writer in
    let disk = c.close.new.disk in
    let at = mid g.D.Disk b base s e a.change.now a.page a.key.now a.writer.now a.disk.now may a.change.now.owned c.requires.end c.in_ok-last.last w disk k.sound in
    let put = may_put_end g.D.Disk b base s e a.change.now a.page a.key.now a.writer.now a.disk.now may a.change.now.owned c.requires.end c.in_ok-last.last w disk k.sound in
    let logged : KeyLogKept g.D.Disk b base at e a.change.now.transaction c.in_ok-last.last a.page (InsertKey a.key.now a.rid) disk c.log_insert.new.writer c.log_insert.new.disk c.log_insert.result =
    subst (λ (t : ℕ). KeyLogKept g.D.Disk b base at e t c.in_ok-last.last a.page (InsertKey a.key.now a.rid) disk c.log_insert.new.writer c.log_insert.new.disk c.log_insert.result) c.owner.ensures
    (c.log_insert.ensures.kept b base at e a.change.now.undo_next (subst (λ (t : ℕ). MayPut g.D.Disk b base at e t c.in_ok-last.last a.change.now.undo_next a.page a.key.now w disk) (sym c.owner.ensures) put)) in
    insert_ended g.D.Disk b base s e a.change.now a.page a.key.now a.writer.now a.disk.now may a.change.now.owned c.requires.end c.in_ok-last.last w disk k.sound a.rid c.log_insert.new.writer c.log_insert.new.disk c.log_insert.result k.stops logged

pub returns-in_err-last-clause-never : goal.returns-in_err-last-clause-never
returns-in_err-last-clause-never g c = err_on c.from_residual.result _ _ c.from_residual.ensures.1 (log_works g.D.Disk c.requires.working c.in_err-last.ensures.outcome)

pub returns-clause-never : goal.returns-clause-never
returns-clause-never g c = put_works g.D.Disk c.log_insert.result c.in_ok-last.ensures.outcome.ends.works c.log_insert.ensures.outcome
