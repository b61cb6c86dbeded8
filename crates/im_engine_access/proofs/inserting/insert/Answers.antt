use Rattle.im_theory_log.specs.Transactions.{contents}
use Rattle.im_page_writer.proofs.Cited.{changed_none, log_refused, logs_for_more, logs_late, logs_then}
use Rattle.im_smo_actions.specs.GoingBeside.{settled_pages}
use Rattle.im_engine_access.proofs.DeletesAtOnce.{failed_after}
use Rattle.im_engine_access.proofs.Inserts.{log_late}
use Rattle.im_engine_access.proofs.InsertsAtOnce.{dies, fails_once, hides, map_here, may_insert, never_short, not_laid, put_once, tree_here, waits}
use Rattle.im_engine_access.proofs.Planning.{fewer_splits, late_table, never_full}
use Rattle.im_engine_access.proofs.inserting.insert.Goals as goal

-- ---- nothing was laid down

pub returns-in_err-sight-clause-outcome : goal.returns-in_err-sight-clause-outcome
returns-in_err-sight-clause-outcome g c = log_refused g.D.Disk c.from_residual.result c.from_residual.ensures.1 (logs_late g.D.Disk (λ e is. is) c.requires.working (changed_none g.D.Disk (λ e is. is) c.in_err-sight.ensures.outcome))

pub returns-in_err-sight-clause-kept : goal.returns-in_err-sight-clause-kept
returns-in_err-sight-clause-kept g c b base s e may =
    let a = c.args in
    let t = a.transaction.now in
    not_laid g.D.Disk b base s e t.number t.last t.undo_next a.writer.now a.disk.now a.key.now a.rid a.dense a.max a.locks.now c.prepare_coming.new.locks may c.none.result c.none.ensures.pages c.prepare_coming.new.writer c.prepare_coming.new.disk c.in_err-sight.field-0.0 c.in_err-sight.ensures.outcome c.in_err-sight.ensures.never
    (c.in_err-sight.ensures.kept (settled_pages b s) (contents b s.log) a.rid (tree_here g.D.Disk b base s e t.number t.last t.undo_next a.writer.now a.disk.now a.key.now a.rid a.dense a.max a.locks.now c.prepare_coming.new.locks may c.none.result c.none.ensures.pages) (map_here g.D.Disk b base s e t.number t.last t.undo_next a.writer.now a.disk.now a.key.now a.rid a.dense a.max a.locks.now c.prepare_coming.new.locks may c.none.result c.none.ensures.pages)) c.from_residual.result c.from_residual.ensures.1

-- ---- nothing is hidden

pub returns-in-Hidden-clause-outcome : goal.returns-in-Hidden-clause-outcome
returns-in-Hidden-clause-outcome g c = failed_after g.D.Disk (changed_none g.D.Disk (λ e is. is) c.in_ok-sight.ensures.outcome)

pub returns-in-Hidden-clause-kept : goal.returns-in-Hidden-clause-kept
returns-in-Hidden-clause-kept g c b base s e may =
    let a = c.args in
    let t = a.transaction.now in
    let kept = c.in_ok-sight.ensures.kept (settled_pages b s) (contents b s.log) a.rid (tree_here g.D.Disk b base s e t.number t.last t.undo_next a.writer.now a.disk.now a.key.now a.rid a.dense a.max a.locks.now c.prepare_coming.new.locks may c.none.result c.none.ensures.pages) (map_here g.D.Disk b base s e t.number t.last t.undo_next a.writer.now a.disk.now a.key.now a.rid a.dense a.max a.locks.now c.prepare_coming.new.locks may c.none.result c.none.ensures.pages) in
    hides g.D.Disk b base s e t.number t.last t.undo_next a.writer.now a.disk.now a.key.now a.rid a.dense a.max a.locks.now c.prepare_coming.new.locks may c.none.result c.none.ensures.pages c.prepare_coming.new.writer c.prepare_coming.new.disk c.in_ok-sight.ensures.outcome c.in_ok-sight.sight kept c.in-Hidden.is

pub returns-in-Hidden-clause-table : goal.returns-in-Hidden-clause-table
returns-in-Hidden-clause-table g c = λ is. absurd (never_short is)

pub returns-in-Hidden-clause-lasting : goal.returns-in-Hidden-clause-lasting
returns-in-Hidden-clause-lasting g c = λ is. absurd (never_short is)

-- ---- a lock is in the way

pub returns-in-Wait-clause-outcome : goal.returns-in-Wait-clause-outcome
returns-in-Wait-clause-outcome g c = logs_late g.D.Disk (λ e is. is) c.requires.working (changed_none g.D.Disk (λ e is. is) c.in_ok-sight.ensures.outcome)

pub returns-in-Wait-clause-kept : goal.returns-in-Wait-clause-kept
returns-in-Wait-clause-kept g c b base s e may =
    let a = c.args in
    let t = a.transaction.now in
    let kept = c.in_ok-sight.ensures.kept (settled_pages b s) (contents b s.log) a.rid (tree_here g.D.Disk b base s e t.number t.last t.undo_next a.writer.now a.disk.now a.key.now a.rid a.dense a.max a.locks.now c.prepare_coming.new.locks may c.none.result c.none.ensures.pages) (map_here g.D.Disk b base s e t.number t.last t.undo_next a.writer.now a.disk.now a.key.now a.rid a.dense a.max a.locks.now c.prepare_coming.new.locks may c.none.result c.none.ensures.pages) in
    waits g.D.Disk b base s e t.number t.last t.undo_next a.writer.now a.disk.now a.key.now a.rid a.dense a.max a.locks.now c.prepare_coming.new.locks may c.none.result c.none.ensures.pages c.prepare_coming.new.writer c.prepare_coming.new.disk c.in_ok-sight.ensures.outcome c.in_ok-sight.sight kept c.in-Seen.answer c.in-Seen.is c.in-Wait.holder c.in-Wait.is

pub returns-in-Die-clause-outcome : goal.returns-in-Die-clause-outcome
returns-in-Die-clause-outcome g c = logs_late g.D.Disk (λ e is. is) c.requires.working (changed_none g.D.Disk (λ e is. is) c.in_ok-sight.ensures.outcome)

pub returns-in-Die-clause-kept : goal.returns-in-Die-clause-kept
returns-in-Die-clause-kept g c b base s e may =
    let a = c.args in
    let t = a.transaction.now in
    let kept = c.in_ok-sight.ensures.kept (settled_pages b s) (contents b s.log) a.rid (tree_here g.D.Disk b base s e t.number t.last t.undo_next a.writer.now a.disk.now a.key.now a.rid a.dense a.max a.locks.now c.prepare_coming.new.locks may c.none.result c.none.ensures.pages) (map_here g.D.Disk b base s e t.number t.last t.undo_next a.writer.now a.disk.now a.key.now a.rid a.dense a.max a.locks.now c.prepare_coming.new.locks may c.none.result c.none.ensures.pages) in
    dies g.D.Disk b base s e t.number t.last t.undo_next a.writer.now a.disk.now a.key.now a.rid a.dense a.max a.locks.now c.prepare_coming.new.locks may c.none.result c.none.ensures.pages c.prepare_coming.new.writer c.prepare_coming.new.disk c.in_ok-sight.ensures.outcome c.in_ok-sight.sight kept c.in-Seen.answer c.in-Seen.is c.in-Die.is

-- ---- it is granted

pub returns-in-Ok-clause-outcome : goal.returns-in-Ok-clause-outcome
returns-in-Ok-clause-outcome g c = logs_then g.D.Disk c.in_ok-sight.ensures.outcome (logs_for_more g.D.Disk (fewer_splits c.args.max) c.in-Ok.ensures.outcome)

pub returns-in-Ok-clause-kept : goal.returns-in-Ok-clause-kept
returns-in-Ok-clause-kept g c b base s e may =
    let a = c.args in
    let t = a.transaction.now in
    let kept = c.in_ok-sight.ensures.kept (settled_pages b s) (contents b s.log) a.rid (tree_here g.D.Disk b base s e t.number t.last t.undo_next a.writer.now a.disk.now a.key.now a.rid a.dense a.max a.locks.now c.prepare_coming.new.locks may c.none.result c.none.ensures.pages) (map_here g.D.Disk b base s e t.number t.last t.undo_next a.writer.now a.disk.now a.key.now a.rid a.dense a.max a.locks.now c.prepare_coming.new.locks may c.none.result c.none.ensures.pages) in
    put_once g.D.Disk b base s e t.number t.last t.undo_next a.writer.now a.disk.now a.key.now a.rid a.dense a.max a.locks.now c.prepare_coming.new.locks may c.none.result c.none.ensures.pages c.prepare_coming.new.writer c.prepare_coming.new.disk c.in_ok-sight.ensures.outcome c.in_ok-sight.sight kept c.in-Seen.answer c.in-Seen.is c.in-Granted.coming c.in-Granted.is c.in-Ok.noted c.log_at_once.new.writer c.log_at_once.new.disk (c.in-Ok.ensures.kept b base s e a.dense a.max c.none.result (may_insert g.D.Disk b base s e t.number t.last t.undo_next a.writer.now a.disk.now a.key.now a.rid a.dense a.max a.locks.now c.prepare_coming.new.locks may c.none.result c.none.ensures.pages c.prepare_coming.new.writer c.prepare_coming.new.disk c.in_ok-sight.ensures.outcome c.in_ok-sight.sight kept c.in-Seen.answer c.in-Seen.is c.in-Granted.coming c.in-Granted.is))

pub returns-in-Err-clause-outcome : goal.returns-in-Err-clause-outcome
returns-in-Err-clause-outcome g c = log_late g.D.Disk (logs_then g.D.Disk c.in_ok-sight.ensures.outcome (logs_for_more g.D.Disk (fewer_splits c.args.max) c.in-Err.ensures.outcome)) c.late.ensures.memory c.late.ensures.others

pub returns-in-Err-clause-kept : goal.returns-in-Err-clause-kept
returns-in-Err-clause-kept g c b base s e may =
    let a = c.args in
    let t = a.transaction.now in
    let kept = c.in_ok-sight.ensures.kept (settled_pages b s) (contents b s.log) a.rid (tree_here g.D.Disk b base s e t.number t.last t.undo_next a.writer.now a.disk.now a.key.now a.rid a.dense a.max a.locks.now c.prepare_coming.new.locks may c.none.result c.none.ensures.pages) (map_here g.D.Disk b base s e t.number t.last t.undo_next a.writer.now a.disk.now a.key.now a.rid a.dense a.max a.locks.now c.prepare_coming.new.locks may c.none.result c.none.ensures.pages) in
    fails_once g.D.Disk b base s e t.number t.last t.undo_next a.writer.now a.disk.now a.key.now a.rid a.dense a.max a.locks.now c.prepare_coming.new.locks may c.none.result c.none.ensures.pages c.prepare_coming.new.writer c.prepare_coming.new.disk c.in_ok-sight.ensures.outcome c.in_ok-sight.sight kept c.in-Seen.answer c.in-Seen.is c.in-Granted.coming c.in-Granted.is c.in-Err.fault c.late.result c.late.ensures.memory c.late.ensures.others (never_full g.D.Disk c.in-Err.ensures.outcome) c.log_at_once.new.writer c.log_at_once.new.disk
    (c.in-Err.ensures.kept b base s e a.dense a.max c.none.result (may_insert g.D.Disk b base s e t.number t.last t.undo_next a.writer.now a.disk.now a.key.now a.rid a.dense a.max a.locks.now c.prepare_coming.new.locks may c.none.result c.none.ensures.pages c.prepare_coming.new.writer c.prepare_coming.new.disk c.in_ok-sight.ensures.outcome c.in_ok-sight.sight kept c.in-Seen.answer c.in-Seen.is c.in-Granted.coming c.in-Granted.is))

pub returns-in-Err-clause-table : goal.returns-in-Err-clause-table
returns-in-Err-clause-table g c = late_table c.in-Err.fault c.late.result _ c.late.ensures.memory c.late.ensures.others (never_full g.D.Disk c.in-Err.ensures.outcome)

pub returns-in-Err-clause-lasting : goal.returns-in-Err-clause-lasting
returns-in-Err-clause-lasting g c = late_table c.in-Err.fault c.late.result _ c.late.ensures.memory c.late.ensures.others (never_full g.D.Disk c.in-Err.ensures.outcome)
