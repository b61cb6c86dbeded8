use Rattle.std.proofs.Common.{inr}
use Rattle.im_theory_log.specs.Transactions.{contents}
use Rattle.im_page_writer.proofs.Cited.{changed_none, log_refused, logs_for_more, logs_late, logs_then, err_on}
use Rattle.im_smo_actions.specs.GoingBeside.{settled_pages}
use Rattle.im_engine_access.proofs.InsertsBeside.{beside_dies, beside_fails, beside_granted, beside_hidden, beside_refused, beside_waits, has_tree_but, hidden_is, laid_never, map_beside, may_come, numbers_more}
use Rattle.im_engine_access.proofs.inserting_beside.insert_beside.Goals as goal

pub returns-in_err-answer-clause-outcome : goal.returns-in_err-answer-clause-outcome
returns-in_err-answer-clause-outcome g c = log_refused g.D.Disk c.from_residual.result c.from_residual.ensures.1 (logs_late g.D.Disk (λ e is. is) c.requires.working (changed_none g.D.Disk (λ e is. is) c.in_err-answer.ensures.outcome))

pub returns-in_err-answer-clause-kept : goal.returns-in_err-answer-clause-kept
returns-in_err-answer-clause-kept g c b base s e may =
    let a = c.args in
    let t = a.transaction.now in
    let tree = has_tree_but g.D.Disk b base s e t.number t.last t.undo_next a.key.now a.rid a.dense a.max a.beside a.locks.now a.writer.now a.disk.now may c.requires.owner in
    let map = map_beside g.D.Disk b base s e t.number t.last t.undo_next a.key.now a.rid a.dense a.max a.beside a.locks.now a.writer.now a.disk.now may c.requires.owner in
    let kept = c.in_err-answer.ensures.kept (settled_pages b s) (contents b s.log) a.rid tree map in
    beside_refused g.D.Disk b base s e t.number t.last t.undo_next a.key.now a.rid a.dense a.max a.beside a.locks.now a.writer.now a.disk.now may c.requires.owner c.prepare_coming.new.locks c.prepare_coming.new.writer c.prepare_coming.new.disk c.in_err-answer.field-0.0 c.in_err-answer.ensures.outcome c.in_err-answer.ensures.never kept c.from_residual.result c.from_residual.ensures.1

pub returns-in_default-clause-outcome : goal.returns-in_default-clause-outcome
returns-in_default-clause-outcome g c = logs_late g.D.Disk (λ e is. is) c.requires.working (changed_none g.D.Disk (λ e is. is) c.in_ok-answer.ensures.outcome)

pub returns-in_default-clause-kept : goal.returns-in_default-clause-kept
returns-in_default-clause-kept g c b base s e may =
    let a = c.args in
    let t = a.transaction.now in
    let tree = has_tree_but g.D.Disk b base s e t.number t.last t.undo_next a.key.now a.rid a.dense a.max a.beside a.locks.now a.writer.now a.disk.now may c.requires.owner in
    let map = map_beside g.D.Disk b base s e t.number t.last t.undo_next a.key.now a.rid a.dense a.max a.beside a.locks.now a.writer.now a.disk.now may c.requires.owner in
    let kept = c.in_ok-answer.ensures.kept (settled_pages b s) (contents b s.log) a.rid tree map in
    beside_hidden g.D.Disk b base s e t.number t.last t.undo_next a.key.now a.rid a.dense a.max a.beside a.locks.now a.writer.now a.disk.now may c.requires.owner c.prepare_coming.new.locks c.prepare_coming.new.writer c.prepare_coming.new.disk c.in_ok-answer.ensures.outcome c.in_ok-answer.field-0 kept (hidden_is c.in_ok-answer.field-0 c.in_default.not-Seen)

pub returns-in-Wait-clause-outcome : goal.returns-in-Wait-clause-outcome
returns-in-Wait-clause-outcome g c = logs_late g.D.Disk (λ e is. is) c.requires.working (changed_none g.D.Disk (λ e is. is) c.in_ok-answer.ensures.outcome)

pub returns-in-Wait-clause-kept : goal.returns-in-Wait-clause-kept
returns-in-Wait-clause-kept g c b base s e may =
    let a = c.args in
    let t = a.transaction.now in
    let tree = has_tree_but g.D.Disk b base s e t.number t.last t.undo_next a.key.now a.rid a.dense a.max a.beside a.locks.now a.writer.now a.disk.now may c.requires.owner in
    let map = map_beside g.D.Disk b base s e t.number t.last t.undo_next a.key.now a.rid a.dense a.max a.beside a.locks.now a.writer.now a.disk.now may c.requires.owner in
    let kept = c.in_ok-answer.ensures.kept (settled_pages b s) (contents b s.log) a.rid tree map in
    beside_waits g.D.Disk b base s e t.number t.last t.undo_next a.key.now a.rid a.dense a.max a.beside a.locks.now a.writer.now a.disk.now may c.requires.owner c.prepare_coming.new.locks c.prepare_coming.new.writer c.prepare_coming.new.disk c.in_ok-answer.ensures.outcome c.in_ok-answer.field-0 kept c.in-Seen.answer c.in-Seen.is c.in-Wait.holder c.in-Wait.is

pub returns-in-Die-clause-outcome : goal.returns-in-Die-clause-outcome
returns-in-Die-clause-outcome g c = logs_late g.D.Disk (λ e is. is) c.requires.working (changed_none g.D.Disk (λ e is. is) c.in_ok-answer.ensures.outcome)

pub returns-in-Die-clause-kept : goal.returns-in-Die-clause-kept
returns-in-Die-clause-kept g c b base s e may =
    let a = c.args in
    let t = a.transaction.now in
    let tree = has_tree_but g.D.Disk b base s e t.number t.last t.undo_next a.key.now a.rid a.dense a.max a.beside a.locks.now a.writer.now a.disk.now may c.requires.owner in
    let map = map_beside g.D.Disk b base s e t.number t.last t.undo_next a.key.now a.rid a.dense a.max a.beside a.locks.now a.writer.now a.disk.now may c.requires.owner in
    let kept = c.in_ok-answer.ensures.kept (settled_pages b s) (contents b s.log) a.rid tree map in
    beside_dies g.D.Disk b base s e t.number t.last t.undo_next a.key.now a.rid a.dense a.max a.beside a.locks.now a.writer.now a.disk.now may c.requires.owner c.prepare_coming.new.locks c.prepare_coming.new.writer c.prepare_coming.new.disk c.in_ok-answer.ensures.outcome c.in_ok-answer.field-0 kept c.in-Seen.answer c.in-Seen.is c.in-Die.is

pub returns-in_err-inserting-clause-outcome : goal.returns-in_err-inserting-clause-outcome
returns-in_err-inserting-clause-outcome g c = log_refused g.D.Disk c.from_residual-in_err-inserting.result c.from_residual-in_err-inserting.ensures.1 (logs_then g.D.Disk c.in_ok-answer.ensures.outcome (logs_for_more g.D.Disk (numbers_more c.args.max) c.in_err-inserting.ensures.outcome))

pub returns-in_err-inserting-clause-kept : goal.returns-in_err-inserting-clause-kept
returns-in_err-inserting-clause-kept g c b base s e may =
    let a = c.args in
    let t = a.transaction.now in
    let tree = has_tree_but g.D.Disk b base s e t.number t.last t.undo_next a.key.now a.rid a.dense a.max a.beside a.locks.now a.writer.now a.disk.now may c.requires.owner in
    let map = map_beside g.D.Disk b base s e t.number t.last t.undo_next a.key.now a.rid a.dense a.max a.beside a.locks.now a.writer.now a.disk.now may c.requires.owner in
    let kept = c.in_ok-answer.ensures.kept (settled_pages b s) (contents b s.log) a.rid tree map in
    let come = may_come g.D.Disk b base s e t.number t.last t.undo_next a.key.now a.rid a.dense a.max a.beside a.locks.now a.writer.now a.disk.now may c.requires.owner c.prepare_coming.new.locks c.prepare_coming.new.writer c.prepare_coming.new.disk c.in_ok-answer.ensures.outcome c.in_ok-answer.field-0 kept c.in-Seen.answer c.in-Seen.is c.in-Granted.coming c.in-Granted.is in
    beside_fails g.D.Disk b base s e t.number t.last t.undo_next a.key.now a.rid a.dense a.max a.beside a.locks.now a.writer.now a.disk.now may c.requires.owner c.prepare_coming.new.locks c.prepare_coming.new.writer c.prepare_coming.new.disk c.in_ok-answer.ensures.outcome c.in_ok-answer.field-0 kept c.in-Seen.answer c.in-Seen.is c.in-Granted.coming c.in-Granted.is c.in_err-inserting.field-0.0 c.log_coming.new.writer c.log_coming.new.disk (λ full. laid_never g.D.Disk c.in_err-inserting.ensures.outcome (inr full)) (c.in_err-inserting.ensures.kept b base s e a.dense a.max a.beside come) c.from_residual-in_err-inserting.result c.from_residual-in_err-inserting.ensures.1

pub returns-in_err-inserting-clause-table : goal.returns-in_err-inserting-clause-table
returns-in_err-inserting-clause-table g c = err_on c.from_residual-in_err-inserting.result _ _ c.from_residual-in_err-inserting.ensures.1 (λ is. absurd (laid_never g.D.Disk c.in_err-inserting.ensures.outcome is))

pub returns-in_err-inserting-clause-lasting : goal.returns-in_err-inserting-clause-lasting
returns-in_err-inserting-clause-lasting g c = err_on c.from_residual-in_err-inserting.result _ _ c.from_residual-in_err-inserting.ensures.1 (λ is. absurd (laid_never g.D.Disk c.in_err-inserting.ensures.outcome is))

pub returns-clause-outcome : goal.returns-clause-outcome
returns-clause-outcome g c = logs_then g.D.Disk c.in_ok-answer.ensures.outcome (logs_for_more g.D.Disk (numbers_more c.args.max) c.in_ok-inserting.ensures.outcome)

pub returns-clause-kept : goal.returns-clause-kept
returns-clause-kept g c b base s e may =
    let a = c.args in
    let t = a.transaction.now in
    let tree = has_tree_but g.D.Disk b base s e t.number t.last t.undo_next a.key.now a.rid a.dense a.max a.beside a.locks.now a.writer.now a.disk.now may c.requires.owner in
    let map = map_beside g.D.Disk b base s e t.number t.last t.undo_next a.key.now a.rid a.dense a.max a.beside a.locks.now a.writer.now a.disk.now may c.requires.owner in
    let kept = c.in_ok-answer.ensures.kept (settled_pages b s) (contents b s.log) a.rid tree map in
    let come = may_come g.D.Disk b base s e t.number t.last t.undo_next a.key.now a.rid a.dense a.max a.beside a.locks.now a.writer.now a.disk.now may c.requires.owner c.prepare_coming.new.locks c.prepare_coming.new.writer c.prepare_coming.new.disk c.in_ok-answer.ensures.outcome c.in_ok-answer.field-0 kept c.in-Seen.answer c.in-Seen.is c.in-Granted.coming c.in-Granted.is in
    beside_granted g.D.Disk b base s e t.number t.last t.undo_next a.key.now a.rid a.dense a.max a.beside a.locks.now a.writer.now a.disk.now may c.requires.owner c.prepare_coming.new.locks c.prepare_coming.new.writer c.prepare_coming.new.disk c.in_ok-answer.ensures.outcome c.in_ok-answer.field-0 kept c.in-Seen.answer c.in-Seen.is c.in-Granted.coming c.in-Granted.is c.in_ok-inserting.inserting c.log_coming.new.writer c.log_coming.new.disk (c.in_ok-inserting.ensures.kept b base s e a.dense a.max a.beside come)
