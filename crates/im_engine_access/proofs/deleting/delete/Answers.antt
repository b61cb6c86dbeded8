use Rattle.std.proofs.Common.{◌≡◌, ◌∙◌, ap}
use Rattle.im_base_types.specs.declared.fault.Fault.TheVariants.{Memory}
use Rattle.im_page_writer.specs.Outcome.{mild}
use Rattle.im_page_writer.proofs.Cited.{err_on, log_refused, logs_both, logs_late}
use Rattle.im_smo_log.specs.declared.change.Change.{Change}
use Rattle.im_theory_machine.specs.Table.{SameLasting, SameTable}
use Rattle.im_engine_access.proofs.DeletesAtOnce.{dies, dropping_late, dropping_once, failed_after, gone_once, may_beside, never_hidden, not_laid, taken_once, waits, was}
use Rattle.im_engine_access.proofs.deleting.delete.Goals as goal

-- ---- nothing was laid down

pub returns-in_err-sight-clause-outcome : goal.returns-in_err-sight-clause-outcome
returns-in_err-sight-clause-outcome g c = log_refused g.D.Disk c.from_residual.result c.from_residual.ensures.1 (logs_late g.D.Disk {m = mild} (λ f is. is) c.requires.working c.in_err-sight.ensures.outcome)

pub returns-in_err-sight-clause-kept : goal.returns-in_err-sight-clause-kept
returns-in_err-sight-clause-kept g c b base s e may =
    let a = c.args in
    let t = a.transaction.now in
    let beside = c.none.result in
    let none = c.none.ensures.pages in
    not_laid g.D.Disk b base s e t.number t.last t.undo_next a.writer.now a.disk.now a.key.now a.locks.now c.delete_beside.new.locks may c.requires.owner beside none c.delete_beside.new.writer c.delete_beside.new.disk c.in_err-sight.field-0.0
    c.from_residual.result c.from_residual.ensures.1 c.in_err-sight.ensures.outcome
    (c.in_err-sight.ensures.kept b base s e (may_beside g.D.Disk b base s e t.number t.last t.undo_next a.writer.now a.disk.now a.key.now a.locks.now c.delete_beside.new.locks may c.requires.owner beside none))

pub returns-in_err-sight-clause-table : goal.returns-in_err-sight-clause-table
returns-in_err-sight-clause-table g c = err_on c.from_residual.result c.in_err-sight.field-0.0 (λ x. x ≡ Memory → SameTable c.args.locks.now c.delete_beside.new.locks) c.from_residual.ensures.1 c.in_err-sight.ensures.table

pub returns-in_err-sight-clause-lasting : goal.returns-in_err-sight-clause-lasting
returns-in_err-sight-clause-lasting g c = err_on c.from_residual.result c.in_err-sight.field-0.0 (λ x. x ≡ Memory → SameLasting c.args.locks.now c.delete_beside.new.locks) c.from_residual.ensures.1 c.in_err-sight.ensures.lasting

-- ---- nothing is hidden

pub returns-in-Hidden-clause-outcome : goal.returns-in-Hidden-clause-outcome
returns-in-Hidden-clause-outcome g c = failed_after g.D.Disk c.in_ok-sight.ensures.outcome

pub returns-in-Hidden-clause-kept : goal.returns-in-Hidden-clause-kept
returns-in-Hidden-clause-kept g c b base s e may =
    let a = c.args in
    let t = a.transaction.now in
    let beside = c.none.result in
    let none = c.none.ensures.pages in
    let k = c.in_ok-sight.ensures.kept b base s e (may_beside g.D.Disk b base s e t.number t.last t.undo_next a.writer.now a.disk.now a.key.now a.locks.now c.delete_beside.new.locks may c.requires.owner beside none) in
    absurd (never_hidden g.D.Disk b base s e t.number t.last t.undo_next a.writer.now a.disk.now a.key.now a.locks.now c.delete_beside.new.locks may c.requires.owner beside none c.delete_beside.new.writer c.delete_beside.new.disk c.in_ok-sight.sight k c.in-Hidden.is)

-- ---- a lock is in the way

pub returns-in-Wait-clause-outcome : goal.returns-in-Wait-clause-outcome
returns-in-Wait-clause-outcome g c = logs_late g.D.Disk {m = mild} (λ f is. is) c.requires.working c.in_ok-sight.ensures.outcome

pub returns-in-Wait-clause-kept : goal.returns-in-Wait-clause-kept
returns-in-Wait-clause-kept g c b base s e may =
    let a = c.args in
    let t = a.transaction.now in
    let beside = c.none.result in
    let none = c.none.ensures.pages in
    let k = c.in_ok-sight.ensures.kept b base s e (may_beside g.D.Disk b base s e t.number t.last t.undo_next a.writer.now a.disk.now a.key.now a.locks.now c.delete_beside.new.locks may c.requires.owner beside none) in
    waits g.D.Disk b base s e t.number t.last t.undo_next a.writer.now a.disk.now a.key.now a.locks.now c.delete_beside.new.locks may c.requires.owner beside none c.delete_beside.new.writer c.delete_beside.new.disk c.in_ok-sight.sight k c.in-Seen.answer c.in-Seen.is
    c.in-Wait.holder c.in-Wait.is

pub returns-in-Die-clause-outcome : goal.returns-in-Die-clause-outcome
returns-in-Die-clause-outcome g c = logs_late g.D.Disk {m = mild} (λ f is. is) c.requires.working c.in_ok-sight.ensures.outcome

pub returns-in-Die-clause-kept : goal.returns-in-Die-clause-kept
returns-in-Die-clause-kept g c b base s e may =
    let a = c.args in
    let t = a.transaction.now in
    let beside = c.none.result in
    let none = c.none.ensures.pages in
    let k = c.in_ok-sight.ensures.kept b base s e (may_beside g.D.Disk b base s e t.number t.last t.undo_next a.writer.now a.disk.now a.key.now a.locks.now c.delete_beside.new.locks may c.requires.owner beside none) in
    dies g.D.Disk b base s e t.number t.last t.undo_next a.writer.now a.disk.now a.key.now a.locks.now c.delete_beside.new.locks may c.requires.owner beside none c.delete_beside.new.writer c.delete_beside.new.disk c.in_ok-sight.sight k c.in-Seen.answer c.in-Seen.is
    c.in-Die.is

-- ---- it is granted

pub returns-in-Gone-clause-outcome : goal.returns-in-Gone-clause-outcome
returns-in-Gone-clause-outcome g c = logs_late g.D.Disk {m = mild} (λ f is. is) c.requires.working c.in_ok-sight.ensures.outcome

pub returns-in-Gone-clause-kept : goal.returns-in-Gone-clause-kept
returns-in-Gone-clause-kept g c b base s e may =
    let a = c.args in
    let t = a.transaction.now in
    let beside = c.none.result in
    let none = c.none.ensures.pages in
    let k = c.in_ok-sight.ensures.kept b base s e (may_beside g.D.Disk b base s e t.number t.last t.undo_next a.writer.now a.disk.now a.key.now a.locks.now c.delete_beside.new.locks may c.requires.owner beside none) in
    gone_once g.D.Disk b base s e t.number t.last t.undo_next a.writer.now a.disk.now a.key.now a.locks.now c.delete_beside.new.locks may c.requires.owner beside none c.delete_beside.new.writer c.delete_beside.new.disk c.in_ok-sight.sight k c.in-Seen.answer c.in-Seen.is
    c.in-Granted.deleting c.in-Granted.is c.in-Gone.is

pub returns-in-Taken-clause-outcome : goal.returns-in-Taken-clause-outcome
returns-in-Taken-clause-outcome g c = logs_late g.D.Disk {m = mild} (λ f is. is) c.requires.working c.in_ok-sight.ensures.outcome

pub returns-in-Taken-clause-kept : goal.returns-in-Taken-clause-kept
returns-in-Taken-clause-kept g c b base s e may =
    let a = c.args in
    let t = a.transaction.now in
    let beside = c.none.result in
    let none = c.none.ensures.pages in
    let k = c.in_ok-sight.ensures.kept b base s e (may_beside g.D.Disk b base s e t.number t.last t.undo_next a.writer.now a.disk.now a.key.now a.locks.now c.delete_beside.new.locks may c.requires.owner beside none) in
    taken_once g.D.Disk b base s e t.number t.last t.undo_next a.writer.now a.disk.now a.key.now a.locks.now c.delete_beside.new.locks may c.requires.owner beside none c.delete_beside.new.writer c.delete_beside.new.disk c.in_ok-sight.sight k c.in-Seen.answer c.in-Seen.is
    c.in-Granted.deleting c.in-Granted.is c.in-Taken.lsn c.in-Taken.is

-- ---- and a change is made

pub returns-in-Ok-clause-outcome : goal.returns-in-Ok-clause-outcome
returns-in-Ok-clause-outcome g c = logs_both g.D.Disk c.in_ok-sight.ensures.outcome c.in-Ok.ensures.outcome

pub returns-in-Ok-clause-kept : goal.returns-in-Ok-clause-kept
returns-in-Ok-clause-kept g c b base s e may =
    let a = c.args in
    let t = a.transaction.now in
    let beside = c.none.result in
    let none = c.none.ensures.pages in
    let v = c.delete_beside.new.writer in
    let mid = c.delete_beside.new.disk in
    let k = c.in_ok-sight.ensures.kept b base s e (may_beside g.D.Disk b base s e t.number t.last t.undo_next a.writer.now a.disk.now a.key.now a.locks.now c.delete_beside.new.locks may c.requires.owner beside none) in
    let began = was g.D.Disk b base s e t.number t.last t.undo_next a.writer.now a.disk.now a.key.now a.locks.now c.delete_beside.new.locks may c.requires.owner beside none v mid c.in_ok-sight.sight k c.in-Seen.answer c.in-Seen.is c.in-Granted.deleting c.in-Granted.is
    c.in-Dropping.begun c.in-Dropping.is in
    dropping_once g.D.Disk b base s e t.number t.last t.undo_next a.writer.now a.disk.now a.key.now a.locks.now c.delete_beside.new.locks may c.requires.owner beside none v mid c.in_ok-sight.sight k c.in-Seen.answer c.in-Seen.is c.in-Granted.deleting c.in-Granted.is
    c.in-Dropping.begun c.in-Dropping.is c.in-Ok.last c.undo_next-lsn.result (c.undo_next-lsn.ensures ∙ ap (λ (x : Change). x.undo_next) c.change.ensures) c.run.new.writer c.run.new.disk (c.in-Ok.ensures.kept b base began.logged.now e)

pub returns-clause-kept : goal.returns-clause-kept
returns-clause-kept g c b base s e may =
    let a = c.args in
    let t = a.transaction.now in
    let beside = c.none.result in
    let none = c.none.ensures.pages in
    let v = c.delete_beside.new.writer in
    let mid = c.delete_beside.new.disk in
    let k = c.in_ok-sight.ensures.kept b base s e (may_beside g.D.Disk b base s e t.number t.last t.undo_next a.writer.now a.disk.now a.key.now a.locks.now c.delete_beside.new.locks may c.requires.owner beside none) in
    let began = was g.D.Disk b base s e t.number t.last t.undo_next a.writer.now a.disk.now a.key.now a.locks.now c.delete_beside.new.locks may c.requires.owner beside none v mid c.in_ok-sight.sight k c.in-Seen.answer c.in-Seen.is c.in-Granted.deleting c.in-Granted.is
    c.in-Dropping.begun c.in-Dropping.is in
    dropping_late g.D.Disk b base s e t.number t.last t.undo_next a.writer.now a.disk.now a.key.now a.locks.now c.delete_beside.new.locks may c.requires.owner beside none v mid c.in_ok-sight.sight k c.in-Seen.answer c.in-Seen.is c.in-Granted.deleting c.in-Granted.is
    c.in-Dropping.begun c.in-Dropping.is c.in-Err.fault c.late.result c.late.ensures.memory c.late.ensures.others c.run.new.writer c.run.new.disk (c.in-Err.ensures.kept b base began.logged.now e)
