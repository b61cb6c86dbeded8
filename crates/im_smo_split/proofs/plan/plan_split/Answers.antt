use Rattle.std.proofs.Common.{refl, arith}
use Rattle.std.specs.Prelude.{Err}
use Rattle.im_base_types.specs.declared.fault.Fault.TheVariants.{Capacity}
use Rattle.im_page_writer.proofs.Cited.{err_on, ends_own, pages_still, read_more, refused, sound_also, sound_on, then, with_more}
use Rattle.im_smo_split.specs.declared.split_plan.SplitPlan.{SplitPlan}
use Rattle.im_smo_pages.specs.Seen.{bodies}
use Rattle.im_smo_split.specs.Kept.{mild_to_split}
use Rattle.im_smo_split.proofs.Founds.{few_found, none_found, top_found}
use Rattle.im_smo_split.proofs.Plans.{planned, planned_none, wants_fewer, wants_level, wants_none, wants_numbers}
use Rattle.im_smo_split.proofs.Reasons.{grow_splits, never_any_full, never_capacity, never_pages_full, take_splits}
use Rattle.im_smo_split.proofs.plan.plan_split.Goals as goal

pub returns-in_err-top-clause-outcome : goal.returns-in_err-top-clause-outcome
returns-in_err-top-clause-outcome g c = refused g.D.Disk c.from_residual.result c.from_residual.ensures.1 (read_more g.D.Disk (mild_to_split c.args.max) refl c.in_err-top.ensures.outcome)

pub returns-in_err-top-clause-kept : goal.returns-in_err-top-clause-kept
returns-in_err-top-clause-kept g c store has good = sound_on c.from_residual.result _ _ c.from_residual.ensures.1 (c.in_err-top.ensures.kept store has good)

pub returns-in_err-top-clause-wants : goal.returns-in_err-top-clause-wants
returns-in_err-top-clause-wants g c store has good =
    err_on c.from_residual.result _ _ c.from_residual.ensures.1
    (wants_none (bodies store) c.args.key.now c.args.max _ (never_capacity g.D.Disk refl c.in_err-top.ensures.outcome) (never_pages_full g.D.Disk refl c.in_err-top.ensures.outcome))

pub returns-in_default-clause-kept : goal.returns-in_default-clause-kept
returns-in_default-clause-kept g c store has good =
    planned_none store c.args.key.now c.args.max c.new-images.result 0 good (none_found (bodies store) c.args.key.now c.in_ok-top.field-0 c.in_default.not-Some (c.in_ok-top.ensures.kept store has good)) c.new-images.ensures

pub returns-in_err-check_room-clause-outcome : goal.returns-in_err-check_room-clause-outcome
returns-in_err-check_room-clause-outcome g c =
    refused g.D.Disk c.from_residual-in_err-check_room.result c.from_residual-in_err-check_room.ensures.1
    (with_more g.D.Disk (mild_to_split c.args.max) (grow_splits c.args.max) (then g.D.Disk c.in_ok-top.ensures.outcome c.in_err-check_room.ensures.outcome))

pub returns-in_err-check_room-clause-kept : goal.returns-in_err-check_room-clause-kept
returns-in_err-check_room-clause-kept g c store has good =
    sound_on c.from_residual-in_err-check_room.result _ _ c.from_residual-in_err-check_room.ensures.1 (c.in_err-check_room.ensures.kept store (pages_still g.D.Disk has c.in_ok-top.ensures.outcome) good.meta)

pub returns-in_err-check_room-clause-wants : goal.returns-in_err-check_room-clause-wants
returns-in_err-check_room-clause-wants g c store has good =
    let found = top_found (bodies store) c.args.key.now c.in_ok-top.field-0 c.in-Some.top c.in-Some.is (c.in_ok-top.ensures.kept store has good) in
    err_on c.from_residual-in_err-check_room.result _ _ c.from_residual-in_err-check_room.ensures.1
    (wants_fewer (bodies store) c.args.key.now c.args.max c.in-Some.top found _ (never_capacity g.D.Disk refl c.in_err-check_room.ensures.outcome)
    (c.in_err-check_room.ensures.full store (pages_still g.D.Disk has c.in_ok-top.ensures.outcome) good.meta))

pub returns-then-top-2-clause-outcome : goal.returns-then-top-2-clause-outcome
returns-then-top-2-clause-outcome g c = ends_own g.D.Disk (mild_to_split c.args.max) refl refl refl {A = SplitPlan} (Err Capacity) (then g.D.Disk c.in_ok-top.ensures.outcome c.in_ok-check_room.ensures.outcome) refl

pub returns-then-top-2-clause-wants : goal.returns-then-top-2-clause-wants
returns-then-top-2-clause-wants g c store has good =
    let found = top_found (bodies store) c.args.key.now c.in_ok-top.field-0 c.in-Some.top c.in-Some.is (c.in_ok-top.ensures.kept store has good) in
    wants_level (bodies store) c.args.key.now c.args.max c.in-Some.top found c.if-top.true (omega (arith, c.if-top-2.true))

pub returns-clause-outcome : goal.returns-clause-outcome
returns-clause-outcome g c =
    with_more g.D.Disk (mild_to_split c.args.max) (take_splits c.args.max) (then g.D.Disk (then g.D.Disk c.in_ok-top.ensures.outcome c.in_ok-check_room.ensures.outcome) c.split_from.ensures.outcome)

pub returns-clause-kept : goal.returns-clause-kept
returns-clause-kept g c store has good =
    let found = top_found (bodies store) c.args.key.now c.in_ok-top.field-0 c.in-Some.top c.in-Some.is (c.in_ok-top.ensures.kept store has good) in
    let room = c.in_ok-check_room.ensures.kept store (pages_still g.D.Disk has c.in_ok-top.ensures.outcome) good.meta in
    sound_also c.split_from.result _ _
    (c.split_from.ensures.kept store (pages_still g.D.Disk has (then g.D.Disk c.in_ok-top.ensures.outcome c.in_ok-check_room.ensures.outcome)) good found.splits.0)
    (λ plan end. planned store c.args.key.now c.args.max plan.images plan.leaf c.requires.short c.in-Some.top found (λ m is. few_found (bodies store) c.args.key.now c.in-Some.top m found (room m is)) end)

pub returns-clause-wants : goal.returns-clause-wants
returns-clause-wants g c store has good =
    let found = top_found (bodies store) c.args.key.now c.in_ok-top.field-0 c.in-Some.top c.in-Some.is (c.in_ok-top.ensures.kept store has good) in
    wants_numbers (bodies store) c.args.key.now c.args.max c.in-Some.top found c.split_from.result (never_any_full g.D.Disk refl c.split_from.result c.split_from.ensures.outcome)
    (c.split_from.ensures.used_up store (pages_still g.D.Disk has (then g.D.Disk c.in_ok-top.ensures.outcome c.in_ok-check_room.ensures.outcome)) good found.splits.0)
