use Rattle.std.proofs.Common.{Ok, Err, subst}
use Rattle.im_log.specs.Whats.{what_of}
use Rattle.im_log_record.specs.Entry.{Entry, view, transaction_of}
use Rattle.im_page_writer.specs.Outcome.{pages_of}
use Rattle.im_page_writer.proofs.Outcomes.{changed_none, log_refused, logs_for_more, logs_late, logs_then}
use Rattle.im_smo_pages.proofs.Goings.{take_mildly}
use Rattle.im_smo_actions.specs.GoingBeside.{settled_pages}
use Rattle.im_smo_actions.proofs.Standing.{stands_ready}
use Rattle.im_restart_undo.specs.declared.back.Back.{Back}
use Rattle.im_restart_undo.specs.declared.back.Back.TheVariants.{Plain, Split, Drop}
use Rattle.im_restart_undo.specs.Planning.{IsBack}
use Rattle.im_engine_rollback.proofs.LoggingBack.{change_refused, drop_back, drop_logged, drop_needs, drop_refused, has_loaded, plain_logged, plain_refused, split_needs, split_planned}
use Rattle.im_engine_rollback.proofs.TurningBeside.{logged_on}
use Rattle.im_engine_rollback.proofs.step_beside.log_planned.Goals as goal

-- ---- the compensation is all

pub returns-in_err-behind-in-Plain-clause-outcome : goal.returns-in_err-behind-in-Plain-clause-outcome
returns-in_err-behind-in-Plain-clause-outcome g c = log_refused g.D.Disk c.from_residual.result c.from_residual.ensures.1 (logs_for_more g.D.Disk take_mildly c.in_err-behind-in-Plain.ensures.outcome)

pub returns-in_err-behind-in-Plain-clause-kept : goal.returns-in_err-behind-in-Plain-clause-kept
returns-in_err-behind-in-Plain-clause-kept g c b base s e beside going to told planned =
    let entry : Entry = view c.args.«record».now in
    let t = transaction_of entry in
    let plan : IsBack (settled_pages b s) beside (what_of entry) (Plain c.in-Plain.page) = subst (λ (x : Back). IsBack (settled_pages b s) beside (what_of entry) x) c.in-Plain.is planned in
    logged_on g.D.Disk b base s e t c.args.last c.args.undo_next beside c.args.disk.now c.log_back.new.writer c.log_back.new.disk c.in_err-behind-in-Plain.field-0.0 entry c.from_residual.result c.from_residual.ensures.1
    (plain_refused g.D.Disk b base s e t c.args.last c.args.undo_next beside c.args.writer.now c.args.disk.now going entry to c.in-Plain.page c.log_back.new.writer c.log_back.new.disk c.in_err-behind-in-Plain.field-0.0 c.in_err-behind-in-Plain.ensures.early c.in_err-behind-in-Plain.ensures.outcome
    (c.in_err-behind-in-Plain.ensures.kept b base s e going to plan.can (told.apart c.in-Plain.page plan.clear)))

pub returns-in_ok-behind-in-Plain-clause-outcome : goal.returns-in_ok-behind-in-Plain-clause-outcome
returns-in_ok-behind-in-Plain-clause-outcome g c = logs_for_more g.D.Disk take_mildly c.in_ok-behind-in-Plain.ensures.outcome

pub returns-in_ok-behind-in-Plain-clause-kept : goal.returns-in_ok-behind-in-Plain-clause-kept
returns-in_ok-behind-in-Plain-clause-kept g c b base s e beside going to told planned =
    let entry : Entry = view c.args.«record».now in
    let t = transaction_of entry in
    let plan : IsBack (settled_pages b s) beside (what_of entry) (Plain c.in-Plain.page) = subst (λ (x : Back). IsBack (settled_pages b s) beside (what_of entry) x) c.in-Plain.is planned in
    plain_logged g.D.Disk b base s e t c.args.last c.args.undo_next beside c.args.writer.now c.args.disk.now going entry to c.in-Plain.page plan c.log_back.new.writer c.log_back.new.disk c.in_ok-behind-in-Plain.behind c.prev.result c.prev.ensures
    (c.in_ok-behind-in-Plain.ensures.kept b base s e going to plan.can (told.apart c.in-Plain.page plan.clear))

-- ---- a split comes first

pub returns-in_err-change-in-Split-clause-outcome : goal.returns-in_err-change-in-Split-clause-outcome
returns-in_err-change-in-Split-clause-outcome g c =
    log_refused g.D.Disk c.from_residual-in_err-change-in-Split.result c.from_residual-in_err-change-in-Split.ensures.1 (logs_late g.D.Disk take_mildly c.requires.working (changed_none g.D.Disk (λ f is. is) c.in_err-change-in-Split.ensures.outcome))

pub returns-in_err-change-in-Split-clause-kept : goal.returns-in_err-change-in-Split-clause-kept
returns-in_err-change-in-Split-clause-kept g c b base s e beside going to told planned =
    let entry : Entry = view c.args.«record».now in
    let t = transaction_of entry in
    let f = c.in_err-change-in-Split.field-0.0 in
    let plan : IsBack (settled_pages b s) beside (what_of entry) (Split c.in-Split.plan) = subst (λ (x : Back). IsBack (settled_pages b s) beside (what_of entry) x) c.in-Split.is planned in
    let one = c.in_err-change-in-Split.ensures.outcome in
    logged_on g.D.Disk b base s e t c.args.last c.args.undo_next beside c.args.disk.now c.plan_change.new.writer c.plan_change.new.disk f entry c.from_residual-in_err-change-in-Split.result c.from_residual-in_err-change-in-Split.ensures.1
    (change_refused g.D.Disk b base s e t c.args.last c.args.undo_next beside c.args.writer.now c.args.disk.now going entry to (split_needs (settled_pages b s) (what_of entry) c.in-Split.plan plan.can) plan.clear c.plan_change.new.writer c.plan_change.new.disk f
    (c.in_err-change-in-Split.ensures.kept (pages_of s) (has_loaded g.D.Disk b base s e t c.args.last c.args.undo_next beside c.args.writer.now c.args.disk.now going entry to)) one)

pub returns-in_ok-change-in-Split-clause-outcome : goal.returns-in_ok-change-in-Split-clause-outcome
returns-in_ok-change-in-Split-clause-outcome g c = logs_late g.D.Disk take_mildly c.requires.working (changed_none g.D.Disk (λ f is. is) c.in_ok-change-in-Split.ensures.outcome)

pub returns-in_ok-change-in-Split-clause-kept : goal.returns-in_ok-change-in-Split-clause-kept
returns-in_ok-change-in-Split-clause-kept g c b base s e beside going to told planned =
    let entry : Entry = view c.args.«record».now in
    let t = transaction_of entry in
    let plan : IsBack (settled_pages b s) beside (what_of entry) (Split c.in-Split.plan) = subst (λ (x : Back). IsBack (settled_pages b s) beside (what_of entry) x) c.in-Split.is planned in
    let has = has_loaded g.D.Disk b base s e t c.args.last c.args.undo_next beside c.args.writer.now c.args.disk.now going entry to in
    let ev = c.in_ok-change-in-Split.ensures.outcome.ends.goes b base s going.stands (stands_ready g.D.Disk b base s e c.args.writer.now c.args.disk.now going.stands going.over) in
    split_planned g.D.Disk b base s e t c.args.last c.args.undo_next beside c.args.writer.now c.args.disk.now going entry to c.plan_change.new.writer c.plan_change.new.disk ev c.in-Split.plan c.in_ok-change-in-Split.change c.in_ok-change-in-Split.ensures.planned.0 c.in_ok-change-in-Split.ensures.planned.1 plan told
    (c.in_ok-change-in-Split.ensures.kept (pages_of s) has)

-- ---- a deletion comes after

pub returns-in_err-change-in-Drop-clause-outcome : goal.returns-in_err-change-in-Drop-clause-outcome
returns-in_err-change-in-Drop-clause-outcome g c =
    log_refused g.D.Disk c.from_residual-in_err-change-in-Drop.result c.from_residual-in_err-change-in-Drop.ensures.1 (logs_late g.D.Disk take_mildly c.requires.working (changed_none g.D.Disk (λ f is. is) c.in_err-change-in-Drop.ensures.outcome))

pub returns-in_err-change-in-Drop-clause-kept : goal.returns-in_err-change-in-Drop-clause-kept
returns-in_err-change-in-Drop-clause-kept g c b base s e beside going to told planned =
    let entry : Entry = view c.args.«record».now in
    let t = transaction_of entry in
    let f = c.in_err-change-in-Drop.field-0.0 in
    let plan : IsBack (settled_pages b s) beside (what_of entry) (Drop c.in-Drop.page c.in-Drop.images) = subst (λ (x : Back). IsBack (settled_pages b s) beside (what_of entry) x) c.in-Drop.is planned in
    let one = c.in_err-change-in-Drop.ensures.outcome in
    logged_on g.D.Disk b base s e t c.args.last c.args.undo_next beside c.args.disk.now c.plan_change-in-Drop.new.writer c.plan_change-in-Drop.new.disk f entry c.from_residual-in_err-change-in-Drop.result c.from_residual-in_err-change-in-Drop.ensures.1
    (change_refused g.D.Disk b base s e t c.args.last c.args.undo_next beside c.args.writer.now c.args.disk.now going entry to (drop_needs (settled_pages b s) (what_of entry) c.in-Drop.page c.in-Drop.images plan.can) plan.clear c.plan_change-in-Drop.new.writer c.plan_change-in-Drop.new.disk f
    (c.in_err-change-in-Drop.ensures.kept (pages_of s) (has_loaded g.D.Disk b base s e t c.args.last c.args.undo_next beside c.args.writer.now c.args.disk.now going entry to)) one)

pub returns-in_err-behind-in-Drop-clause-outcome : goal.returns-in_err-behind-in-Drop-clause-outcome
returns-in_err-behind-in-Drop-clause-outcome g c =
    log_refused g.D.Disk c.from_residual-in_err-behind-in-Drop.result c.from_residual-in_err-behind-in-Drop.ensures.1 (logs_for_more g.D.Disk take_mildly (logs_then g.D.Disk c.in_ok-change-in-Drop.ensures.outcome c.in_err-behind-in-Drop.ensures.outcome))

pub returns-in_err-behind-in-Drop-clause-kept : goal.returns-in_err-behind-in-Drop-clause-kept
returns-in_err-behind-in-Drop-clause-kept g c b base s e beside going to told planned =
    let entry : Entry = view c.args.«record».now in
    let t = transaction_of entry in
    let last = c.args.last in
    let next = c.args.undo_next in
    let start = c.args.writer.now in
    let old = c.args.disk.now in
    let v = c.plan_change-in-Drop.new.writer in
    let mid = c.plan_change-in-Drop.new.disk in
    let w = c.log_back-in-Drop.new.writer in
    let new = c.log_back-in-Drop.new.disk in
    let page = c.in-Drop.page in
    let images = c.in-Drop.images in
    let f = c.in_err-behind-in-Drop.field-0.0 in
    let plan : IsBack (settled_pages b s) beside (what_of entry) (Drop page images) = subst (λ (x : Back). IsBack (settled_pages b s) beside (what_of entry) x) c.in-Drop.is planned in
    let has = has_loaded g.D.Disk b base s e t last next beside start old going entry to in
    let ev = c.in_ok-change-in-Drop.ensures.outcome.ends.goes b base s going.stands (stands_ready g.D.Disk b base s e start old going.stands going.over) in
    logged_on g.D.Disk b base s e t last next beside old w new f entry c.from_residual-in_err-behind-in-Drop.result c.from_residual-in_err-behind-in-Drop.ensures.1
    (drop_refused g.D.Disk b base s e t last next beside start old going entry to v mid ev page images c.in_ok-change-in-Drop.change c.in_ok-change-in-Drop.ensures.planned.0 c.in_ok-change-in-Drop.ensures.planned.1 plan told (c.in_ok-change-in-Drop.ensures.kept (pages_of s) has) w new f c.in_err-behind-in-Drop.ensures.early c.in_err-behind-in-Drop.ensures.outcome
    (drop_back g.D.Disk b base s e t last next beside start old going entry to v mid ev page images plan told w new (Err f) (λ now. c.in_err-behind-in-Drop.ensures.kept b base now e)))

pub returns-in_ok-behind-in-Drop-clause-outcome : goal.returns-in_ok-behind-in-Drop-clause-outcome
returns-in_ok-behind-in-Drop-clause-outcome g c = logs_for_more g.D.Disk take_mildly (logs_then g.D.Disk c.in_ok-change-in-Drop.ensures.outcome c.in_ok-behind-in-Drop.ensures.outcome)

pub returns-in_ok-behind-in-Drop-clause-kept : goal.returns-in_ok-behind-in-Drop-clause-kept
returns-in_ok-behind-in-Drop-clause-kept g c b base s e beside going to told planned =
    let entry : Entry = view c.args.«record».now in
    let t = transaction_of entry in
    let last = c.args.last in
    let next = c.args.undo_next in
    let start = c.args.writer.now in
    let old = c.args.disk.now in
    let v = c.plan_change-in-Drop.new.writer in
    let mid = c.plan_change-in-Drop.new.disk in
    let w = c.log_back-in-Drop.new.writer in
    let new = c.log_back-in-Drop.new.disk in
    let page = c.in-Drop.page in
    let images = c.in-Drop.images in
    let l = c.in_ok-behind-in-Drop.behind in
    let plan : IsBack (settled_pages b s) beside (what_of entry) (Drop page images) = subst (λ (x : Back). IsBack (settled_pages b s) beside (what_of entry) x) c.in-Drop.is planned in
    let has = has_loaded g.D.Disk b base s e t last next beside start old going entry to in
    let ev = c.in_ok-change-in-Drop.ensures.outcome.ends.goes b base s going.stands (stands_ready g.D.Disk b base s e start old going.stands going.over) in
    drop_logged g.D.Disk b base s e t last next beside start old going entry to v mid ev page images c.in_ok-change-in-Drop.change c.in_ok-change-in-Drop.ensures.planned.0 c.in_ok-change-in-Drop.ensures.planned.1 plan told (c.in_ok-change-in-Drop.ensures.kept (pages_of s) has) w new l c.prev-in-Drop.result c.prev-in-Drop.ensures
    (drop_back g.D.Disk b base s e t last next beside start old going entry to v mid ev page images plan told w new (Ok l) (λ now. c.in_ok-behind-in-Drop.ensures.kept b base now e))
