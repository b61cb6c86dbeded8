use Rattle.std.proofs.Common.{refl, ap}
use Rattle.std.specs.Prelude.{is_some, Err}
use Rattle.im_base_types.specs.declared.fault.Fault.TheVariants.{PagesFull}
use Rattle.im_page_writer.proofs.Cited.{err_on, ends_own, idle, read_more, refused, sound_on}
use Rattle.im_smo_pages.specs.Seen.{bodies}
use Rattle.im_smo_split.specs.Kept.{mild_to_grow}
use Rattle.im_smo_split.proofs.Reasons.{never_pages_full}
use Rattle.im_smo_split.proofs.Rooms.{room_full, room_few}
use Rattle.im_smo_split.proofs.plan.check_room.Goals as goal

pub returns-in_default-clause-outcome : goal.returns-in_default-clause-outcome
returns-in_default-clause-outcome g c = idle g.D.Disk g.met.D.Disk.only_now c.args.writer.now c.args.disk.now c.requires.working c.requires.ready

pub returns-in_default-clause-kept : goal.returns-in_default-clause-kept
returns-in_default-clause-kept g c store has meta m is = absurd (c.in_default.not-Some m is)

pub returns-in_err-is_full-clause-outcome : goal.returns-in_err-is_full-clause-outcome
returns-in_err-is_full-clause-outcome g c = refused g.D.Disk c.from_residual.result c.from_residual.ensures.1 (read_more g.D.Disk (mild_to_grow c.args.max) refl c.in_err-is_full.ensures.outcome)

pub returns-in_err-is_full-clause-kept : goal.returns-in_err-is_full-clause-kept
returns-in_err-is_full-clause-kept g c store has meta = sound_on c.from_residual.result _ _ c.from_residual.ensures.1 (c.in_err-is_full.ensures.kept store has meta)

pub returns-in_err-is_full-clause-full : goal.returns-in_err-is_full-clause-full
returns-in_err-is_full-clause-full g c store has meta = err_on c.from_residual.result _ _ c.from_residual.ensures.1 (λ same. absurd (never_pages_full g.D.Disk refl c.in_err-is_full.ensures.outcome same))

pub returns-then-branch-clause-outcome : goal.returns-then-branch-clause-outcome
returns-then-branch-clause-outcome g c = ends_own g.D.Disk (mild_to_grow c.args.max) refl refl refl {A = Unit} (Err PagesFull) c.in_ok-is_full.ensures.outcome (ap is_some c.in-Some.is)

pub returns-then-branch-clause-full : goal.returns-then-branch-clause-full
returns-then-branch-clause-full g c store has meta same =
    room_full (bodies store 0) c.args.pages c.args.max c.in-Some.most c.in-Some.is c.in_ok-is_full.field-0 (c.in_ok-is_full.ensures.kept store has meta) c.if-branch.true

pub returns-clause-outcome : goal.returns-clause-outcome
returns-clause-outcome g c = read_more g.D.Disk (mild_to_grow c.args.max) refl c.in_ok-is_full.ensures.outcome

pub returns-clause-kept : goal.returns-clause-kept
returns-clause-kept g c store has meta =
    room_few (bodies store 0) c.args.pages c.args.max c.in-Some.most c.in-Some.is c.in_ok-is_full.field-0 (c.in_ok-is_full.ensures.kept store has meta) c.if-branch.false
