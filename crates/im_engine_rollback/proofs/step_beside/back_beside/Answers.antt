use Rattle.std.proofs.Common.{sym, subst}
use Rattle.im_log.specs.Whats.{what_of}
use Rattle.im_log_record.specs.Entry.{Entry, page_of, view, transaction_of}
use Rattle.im_page_writer.proofs.Outcomes.{changed_none, log_refused, logs_late, logs_then}
use Rattle.im_tree_search.specs.Sights.{is_done}
use Rattle.im_tree_search.proofs.Sighted.{at_hidden, at_seen}
use Rattle.im_smo_actions.specs.GoingBeside.{settled_pages}
use Rattle.im_smo_actions.proofs.Standing.{stands_ready}
use Rattle.im_smo_actions.proofs.Told.{plans_have_trees}
use Rattle.im_restart_undo.specs.Planning.{IsBack}
use Rattle.im_restart_undo.proofs.Beside.{beside_images, settled_pages_stay, to_undo_beside, told_longer}
use Rattle.im_engine_rollback.proofs.TurningBeside.{back_on, plan_hidden, plan_logged, plan_not_logged, plan_refused, seen_open}
use Rattle.im_engine_rollback.proofs.step_beside.back_beside.Goals as goal

pub returns-in_err-back-clause-outcome : goal.returns-in_err-back-clause-outcome
returns-in_err-back-clause-outcome g c = log_refused g.D.Disk c.from_residual.result c.from_residual.ensures.1 (logs_late g.D.Disk (λ f is. is) c.requires.working (changed_none g.D.Disk (λ f is. is) c.in_err-back.ensures.outcome))

pub returns-in_err-back-clause-kept : goal.returns-in_err-back-clause-kept
returns-in_err-back-clause-kept g c b base s e going to told =
    let entry : Entry = view c.args.«record».now in
    let t = transaction_of entry in
    let f = c.in_err-back.field-0.0 in
    let whole = plans_have_trees g.D.Disk b base s e c.args.beside c.args.writer.now c.args.disk.now going.stands going.over going.lawful told in
    back_on g.D.Disk b base s e t c.args.last c.args.undo_next c.args.beside c.args.disk.now c.plan_back.new.writer c.plan_back.new.disk f c.from_residual.result c.from_residual.ensures.1
    (plan_refused g.D.Disk b base s e t c.args.last c.args.undo_next c.args.beside c.args.writer.now c.args.disk.now going entry to c.plan_back.new.writer c.plan_back.new.disk f c.in_err-back.ensures.outcome (c.in_err-back.ensures.kept (settled_pages b s) whole) c.in_err-back.ensures.alone)

pub returns-in_default-clause-outcome : goal.returns-in_default-clause-outcome
returns-in_default-clause-outcome g c = logs_late g.D.Disk (λ f is. is) c.requires.working (changed_none g.D.Disk (λ f is. is) c.in_ok-back.ensures.outcome)

pub returns-in_default-clause-kept : goal.returns-in_default-clause-kept
returns-in_default-clause-kept g c b base s e going to told =
    let entry : Entry = view c.args.«record».now in
    let t = transaction_of entry in
    let whole = plans_have_trees g.D.Disk b base s e c.args.beside c.args.writer.now c.args.disk.now going.stands going.over going.lawful told in
    let ev = c.in_ok-back.ensures.outcome.ends.goes b base s going.stands (stands_ready g.D.Disk b base s e c.args.writer.now c.args.disk.now going.stands going.over) in
    plan_hidden g.D.Disk b base s e t c.args.last c.args.undo_next c.args.beside c.args.writer.now c.args.disk.now going entry to c.plan_back.new.writer c.plan_back.new.disk ev
    (at_hidden c.in_ok-back.field-0 _ _ c.in_default.not-Seen (c.in_ok-back.ensures.kept (settled_pages b s) whole).sound)

pub returns-in_err-logged-clause-outcome : goal.returns-in_err-logged-clause-outcome
returns-in_err-logged-clause-outcome g c = log_refused g.D.Disk c.from_residual-in_err-logged.result c.from_residual-in_err-logged.ensures.1 (logs_then g.D.Disk c.in_ok-back.ensures.outcome c.in_err-logged.ensures.outcome)

pub returns-in_err-logged-clause-kept : goal.returns-in_err-logged-clause-kept
returns-in_err-logged-clause-kept g c b base s e going to told =
    let entry : Entry = view c.args.«record».now in
    let t = transaction_of entry in
    let last = c.args.last in
    let next = c.args.undo_next in
    let start = c.args.writer.now in
    let old = c.args.disk.now in
    let v = c.plan_back.new.writer in
    let mid = c.plan_back.new.disk in
    let f = c.in_err-logged.field-0.0 in
    let whole = plans_have_trees g.D.Disk b base s e c.args.beside start old going.stands going.over going.lawful told in
    let ev = c.in_ok-back.ensures.outcome.ends.goes b base s going.stands (stands_ready g.D.Disk b base s e start old going.stands going.over) in
    let planned = at_seen c.in_ok-back.field-0 c.in-Seen.back _ _ c.in-Seen.is (c.in_ok-back.ensures.kept (settled_pages b s) whole).sound in
    back_on g.D.Disk b base s e t last next c.args.beside old c.log_planned.new.writer c.log_planned.new.disk f c.from_residual-in_err-logged.result c.from_residual-in_err-logged.ensures.1
    (plan_not_logged g.D.Disk b base s e t last next c.args.beside start old going entry to v mid ev c.log_planned.new.writer c.log_planned.new.disk f
    (c.in_err-logged.ensures.kept b base ev.now e c.args.beside (beside_images g.D.Disk b base s e t last next start old going old ev.now v mid ev.on) (to_undo_beside g.D.Disk b base s e t last next start old going entry old ev.now v mid ev.on to)
    (told_longer b c.args.beside s.log ev.now.log ev.on.goes.keeps.log told) (subst (λ pages. IsBack pages c.args.beside (what_of entry) c.in-Seen.back) (sym (settled_pages_stay g.D.Disk b base s old ev.now v mid ev.on)) planned)))

pub returns-clause-outcome : goal.returns-clause-outcome
returns-clause-outcome g c = logs_then g.D.Disk c.in_ok-back.ensures.outcome c.in_ok-logged.ensures.outcome

pub returns-clause-kept : goal.returns-clause-kept
returns-clause-kept g c b base s e going to told =
    let entry : Entry = view c.args.«record».now in
    let t = transaction_of entry in
    let last = c.args.last in
    let next = c.args.undo_next in
    let start = c.args.writer.now in
    let old = c.args.disk.now in
    let v = c.plan_back.new.writer in
    let mid = c.plan_back.new.disk in
    let whole = plans_have_trees g.D.Disk b base s e c.args.beside start old going.stands going.over going.lawful told in
    let ev = c.in_ok-back.ensures.outcome.ends.goes b base s going.stands (stands_ready g.D.Disk b base s e start old going.stands going.over) in
    let planned = at_seen c.in_ok-back.field-0 c.in-Seen.back _ _ c.in-Seen.is (c.in_ok-back.ensures.kept (settled_pages b s) whole).sound in
    plan_logged g.D.Disk b base s e t last next c.args.beside start old going entry to v mid ev c.log_planned.new.writer c.log_planned.new.disk c.in_ok-logged.logged (seen_open c.in_ok-back.field-0 c.in-Seen.back (is_done c.args.beside (page_of entry)) c.in-Seen.is c.in_ok-back.ensures.first)
    (c.in_ok-logged.ensures.kept b base ev.now e c.args.beside (beside_images g.D.Disk b base s e t last next start old going old ev.now v mid ev.on) (to_undo_beside g.D.Disk b base s e t last next start old going entry old ev.now v mid ev.on to)
    (told_longer b c.args.beside s.log ev.now.log ev.on.goes.keeps.log told) (subst (λ pages. IsBack pages c.args.beside (what_of entry) c.in-Seen.back) (sym (settled_pages_stay g.D.Disk b base s old ev.now v mid ev.on)) planned))
