use Rattle.std.proofs.Common.{◌∙◌, ◌≤◌, length, arith}
use Rattle.im_page_writer.proofs.Outcomes.{log_refused}
use Rattle.im_restart_undo.proofs.Growth.{left_images}
use Rattle.im_engine_rollback.proofs.InSteps.{begun_on, split_first}
use Rattle.im_engine_rollback.proofs.first_step.begin_split.Goals as goal

pub step-requires-clause-left : goal.step-requires-clause-left
step-requires-clause-left g c =
    let some : 1 ≤ length c.begin-begun.result.change.images = c.begin-begun.result.change.counted.0 in
    omega (arith, some, c.begin-begun.ensures.images.1)

pub returns-in_err-step-clause-outcome : goal.returns-in_err-step-clause-outcome
returns-in_err-step-clause-outcome g c = log_refused g.D.Disk c.from_residual.result c.from_residual.ensures.1 c.in_err-step.ensures.outcome

pub returns-in_err-step-clause-kept : goal.returns-in_err-step-clause-kept
returns-in_err-step-clause-kept g c b base s e stands over way back count =
    let k = c.in_err-step.ensures.kept b base s e stands over in
    begun_on g.D.Disk b base s e c.args.transaction c.args.last c.args.undo_next c.args.disk.now c.step.new.writer c.step.new.disk c.in_err-step.field-0.0 c.from_residual.result c.from_residual.ensures.1
    (record { sound = k.sound; stops = left_images g.D.Disk b base s c.args.transaction c.args.disk.now c.step.new.disk way.lawful k.stops })

pub returns-clause-kept : goal.returns-clause-kept
returns-clause-kept g c b base s e stands over way back count =
    let t = c.args.transaction in
    let k = c.in_ok-step.ensures.kept b base s e stands over in
    let x = c.begin-begun.result.change in
    let images = c.begin-begun.ensures.images in
    let owner = c.begin-begun.ensures.owner in
    record {
      sound = split_first g.D.Disk b base s e c.args.writer.now c.args.disk.now stands over t c.args.last c.args.undo_next c.args.plan x images.0 images.1 owner.0 owner.1 owner.2 way back c.step.new.self c.step.new.writer c.step.new.disk k.sound (c.in_ok-step.ensures.plan.3 ∙ c.begin-begun.ensures.count ∙ count);
      stops = left_images g.D.Disk b base s t c.args.disk.now c.step.new.disk way.lawful k.stops;
    }
