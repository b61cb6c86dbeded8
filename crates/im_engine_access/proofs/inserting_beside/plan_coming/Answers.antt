use Rattle.std.proofs.Common.{refl, Some}
use Rattle.im_page_writer.proofs.Outcomes.{pages_still, refused, then, with_more}
use Rattle.im_smo_split.specs.Kept.{mild_to_split}
use Rattle.im_smo_split.proofs.Reasons.{mild_splits, never_pages_full}
use Rattle.im_engine_access.proofs.Comings.{plan_coming_refused, plan_splits}
use Rattle.im_engine_access.proofs.Planning.{never_so, unplanned, unplanned_kept}
use Rattle.im_engine_access.proofs.inserting_beside.plan_coming.Goals as goal

pub returns-in_err-plan-in-Ok-clause-outcome : goal.returns-in_err-plan-in-Ok-clause-outcome
returns-in_err-plan-in-Ok-clause-outcome g c = refused g.D.Disk c.from_residual.result c.from_residual.ensures.1
    (with_more g.D.Disk (mild_to_split (Some c.args.max)) (mild_splits (Some c.args.max)) (then g.D.Disk c.in-Ok.ensures.outcome c.in_err-plan-in-Ok.ensures.outcome))

pub returns-in_err-plan-in-Ok-clause-kept : goal.returns-in_err-plan-in-Ok-clause-kept
returns-in_err-plan-in-Ok-clause-kept g c pages beside m has good is none lacks alone =
    plan_coming_refused pages beside c.args.key.now c.args.dense c.args.max m c.in_err-plan-in-Ok.field-0.0 c.from_residual.result c.from_residual.ensures.1
    (c.in_err-plan-in-Ok.ensures.kept pages (pages_still g.D.Disk has c.in-Ok.ensures.outcome)) (λ full. absurd (never_pages_full g.D.Disk refl c.in_err-plan-in-Ok.ensures.outcome full))

pub returns-in_ok-plan-in-Ok-clause-outcome : goal.returns-in_ok-plan-in-Ok-clause-outcome
returns-in_ok-plan-in-Ok-clause-outcome g c = with_more g.D.Disk (mild_to_split (Some c.args.max)) (mild_splits (Some c.args.max)) (then g.D.Disk c.in-Ok.ensures.outcome c.in_ok-plan-in-Ok.ensures.outcome)

pub returns-in_ok-plan-in-Ok-clause-kept : goal.returns-in_ok-plan-in-Ok-clause-kept
returns-in_ok-plan-in-Ok-clause-kept g c pages beside m has good is none lacks alone =
    plan_splits pages beside c.args.key.now c.args.dense c.args.max m c.in-Ok.split.images c.in-Ok.split.leaf c.in_ok-plan-in-Ok.plan none alone lacks (c.in-Ok.ensures.kept pages has good)
    c.in_ok-plan-in-Ok.ensures.planned.0 c.in_ok-plan-in-Ok.ensures.planned.1 (c.in_ok-plan-in-Ok.ensures.kept pages (pages_still g.D.Disk has c.in-Ok.ensures.outcome))

pub returns-in-Err-clause-outcome : goal.returns-in-Err-clause-outcome
returns-in-Err-clause-outcome g c = unplanned g.D.Disk c.in-Err.fault c.not_planned.result c.not_planned.ensures.used_up c.not_planned.ensures.others c.in-Err.ensures.outcome

pub returns-in-Err-clause-kept : goal.returns-in-Err-clause-kept
returns-in-Err-clause-kept g c pages beside m has good is none lacks alone =
    unplanned_kept pages beside c.args.key.now c.args.dense c.args.max m c.in-Err.fault c.not_planned.result c.not_planned.ensures.used_up c.not_planned.ensures.others none alone (c.in-Err.ensures.kept pages has good) (c.in-Err.ensures.wants pages has good)

pub returns-in-Err-clause-never : goal.returns-in-Err-clause-never
returns-in-Err-clause-never g c = never_so c.not_planned.result c.in-Err.fault c.not_planned.ensures.others
