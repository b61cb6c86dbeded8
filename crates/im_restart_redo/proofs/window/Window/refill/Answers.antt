use Rattle.std.proofs.Common.{◌≡◌, refl}
use Rattle.im_base_types.specs.declared.fault.Fault.TheVariants.{Device}
use Rattle.im_page_writer.proofs.LoggedChanges.{err_on}
use Rattle.im_restart_redo.proofs.Recoveries.{moved, recovery_refused}
use Rattle.im_restart_redo.proofs.Windows.{shows_also, span_cause, span_refused}
use Rattle.im_restart_redo.proofs.window.Window.refill.Goals as goal

pub returns-in_err-used-clause-outcome : goal.returns-in_err-used-clause-outcome
returns-in_err-used-clause-outcome g c =
    let e = c.in_err-used.ensures in
    recovery_refused g.D.Disk c.from_residual.result c.from_residual.ensures.1
    (span_refused g.D.Disk c.args.writer.now c.read_span.new.self c.read_span.new.disk c.requires.working e.ready e.frames _ c.in_err-used.field-0.0 refl e.failed e.causes e.already e.device)

pub returns-in_err-used-clause-cause : goal.returns-in_err-used-clause-cause
returns-in_err-used-clause-cause g c =
    let e = c.in_err-used.ensures in
    err_on c.from_residual.result c.in_err-used.field-0.0 (λ f. f ≡ Device) c.from_residual.ensures.1 (span_cause c.args.writer.now c.requires.working _ c.in_err-used.field-0.0 refl e.causes e.already)

pub returns-clause-outcome : goal.returns-clause-outcome
returns-clause-outcome g c =
    let e = c.in_ok-used.ensures in
    moved g.D.Disk c.args.writer.now c.read_span.new.self c.read_span.new.disk c.requires.working e.ready e.frames e.works

pub returns-clause-shows : goal.returns-clause-shows
returns-clause-shows g c b base s log st also = shows_also log s.log c.args.from _ also (c.in_ok-used.ensures.span b base s st)
