use Rattle.std.proofs.Common.{◌≡◌, Result, Err, refl, arith}
use Rattle.im_base_types.specs.declared.fault.Fault.{Fault}
use Rattle.im_base_types.specs.declared.fault.Fault.TheVariants.{NotAStore}
use Rattle.im_page_writer.specs.Outcome.{no_page}
use Rattle.im_page_writer.proofs.Outcomes.{sound_on}
use Rattle.im_restart_redo.specs.declared.rounds.Passed.{Passed}
use Rattle.im_restart_redo.proofs.Between.{none_made}
use Rattle.im_restart_redo.proofs.Recoveries.{recovers_then, recovery_own, recovery_refused}
use Rattle.im_restart_redo.proofs.rounds.redo_part.Goals as goal

pub returns-in_err-passed-clause-outcome : goal.returns-in_err-passed-clause-outcome
returns-in_err-passed-clause-outcome g c = recovery_refused g.D.Disk c.from_residual.result c.from_residual.ensures.1 c.in_err-passed.ensures.outcome

pub returns-in_err-passed-clause-kept : goal.returns-in_err-passed-clause-kept
returns-in_err-passed-clause-kept g c b base begun file from all later count so whole shows can at are =
    let one = c.in_err-passed.ensures.kept b base begun file from all later count so whole shows can at are in
    record { sound = sound_on c.from_residual.result _ _ c.from_residual.ensures.1 one.sound; stops = one.stops }

pub returns-then-passed-gt0-clause-outcome : goal.returns-then-passed-gt0-clause-outcome
returns-then-passed-gt0-clause-outcome g c = c.in_ok-passed.ensures.outcome

pub returns-then-passed-gt0-clause-kept : goal.returns-then-passed-gt0-clause-kept
returns-then-passed-gt0-clause-kept g c b base begun file from all later count so whole shows can at are = c.in_ok-passed.ensures.kept b base begun file from all later count so whole shows can at are

pub returns-in_err-alone-clause-outcome : goal.returns-in_err-alone-clause-outcome
returns-in_err-alone-clause-outcome g c =
    recovery_refused g.D.Disk c.from_residual-in_err-alone.result c.from_residual-in_err-alone.ensures.1 (recovers_then g.D.Disk {m = no_page} c.in_ok-passed.ensures.outcome c.in_err-alone.ensures.outcome)

pub returns-in_err-alone-clause-kept : goal.returns-in_err-alone-clause-kept
returns-in_err-alone-clause-kept g c b base begun file from all later count so whole shows can at are =
    let first = c.in_ok-passed.ensures in
    let p : Passed = c.in_ok-passed.passed in
    let none : p.changes ≡ 0 = omega (arith, c.if-passed-gt0.false) in
    let so' = none_made g.D.Disk b base begun file from all c.args.changes.now later count p c.redo_pages.new.writer c.redo_pages.new.disk none first.passed.1 (first.kept b base begun file from all later count so whole shows can at are).sound in
    let one = c.in_err-alone.ensures.kept b base begun file from all later count so' whole shows can at are in
    record { sound = sound_on c.from_residual-in_err-alone.result _ _ c.from_residual-in_err-alone.ensures.1 one.sound; stops = one.stops }

pub returns-then-alone-eq0-clause-outcome : goal.returns-then-alone-eq0-clause-outcome
returns-then-alone-eq0-clause-outcome g c =
    let refusal : Result Passed Fault = Err NotAStore in
    recovery_own g.D.Disk {m = no_page} refl refl refl refusal (recovers_then g.D.Disk {m = no_page} c.in_ok-passed.ensures.outcome c.in_ok-alone.ensures.outcome) refl

pub returns-then-alone-eq0-clause-kept : goal.returns-then-alone-eq0-clause-kept
returns-then-alone-eq0-clause-kept g c b base begun file from all later count so whole shows can at are =
    let first = c.in_ok-passed.ensures in
    let p : Passed = c.in_ok-passed.passed in
    let none : p.changes ≡ 0 = omega (arith, c.if-passed-gt0.false) in
    let so' = none_made g.D.Disk b base begun file from all c.args.changes.now later count p c.redo_pages.new.writer c.redo_pages.new.disk none first.passed.1 (first.kept b base begun file from all later count so whole shows can at are).sound in
    absurd (omega (arith, c.in_ok-alone.ensures.one b base begun file from all later count so' refl, c.if-alone-eq0.true))

pub returns-clause-outcome : goal.returns-clause-outcome
returns-clause-outcome g c = recovers_then g.D.Disk {m = no_page} c.in_ok-passed.ensures.outcome c.in_ok-alone.ensures.outcome

pub returns-clause-kept : goal.returns-clause-kept
returns-clause-kept g c b base begun file from all later count so whole shows can at are =
    let first = c.in_ok-passed.ensures in
    let p : Passed = c.in_ok-passed.passed in
    let none : p.changes ≡ 0 = omega (arith, c.if-passed-gt0.false) in
    let so' = none_made g.D.Disk b base begun file from all c.args.changes.now later count p c.redo_pages.new.writer c.redo_pages.new.disk none first.passed.1 (first.kept b base begun file from all later count so whole shows can at are).sound in
    c.in_ok-alone.ensures.kept b base begun file from all later count so' whole shows can at are
