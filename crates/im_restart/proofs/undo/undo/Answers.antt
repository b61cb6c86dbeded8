use Rattle.std.proofs.Common.{◌≡◌, ◌∙◌}
use Rattle.im_base_types.specs.declared.fault.Fault.TheVariants.{Capacity}
use Rattle.im_page_writer.proofs.Cited.{err_on, sound_on}
use Rattle.im_restart_redo.proofs.Recoveries.{recovers_more, recovery_refused}
use Rattle.im_restart.specs.Restart.{RunsOut}
use Rattle.im_restart.proofs.Ends.{never_numbers}
use Rattle.im_restart.proofs.Undos.{undo_behind}
use Rattle.im_restart.proofs.undo.undo.Goals as goal
use Rattle.im_smo_pages.proofs.Goings.{take_mildly as take_mild}

pub returns-in_err-enter_all-clause-outcome : goal.returns-in_err-enter_all-clause-outcome
returns-in_err-enter_all-clause-outcome g c = recovery_refused g.D.Disk c.from_residual.result c.from_residual.ensures.1 (recovers_more g.D.Disk take_mild c.in_err-enter_all.ensures.outcome)

pub returns-in_err-enter_all-clause-kept : goal.returns-in_err-enter_all-clause-kept
returns-in_err-enter_all-clause-kept g c b base all s stands is are =
    let k = c.in_err-enter_all.ensures.kept b base all s stands is are in
    record { sound = sound_on c.from_residual.result _ _ c.from_residual.ensures.1 k.sound; stops = k.stops }

pub returns-clause-kept : goal.returns-clause-kept
returns-clause-kept g c b base all s stands is are =
    let k = c.in_ok-enter_all.ensures.kept b base all s stands is are in
    undo_behind g.D.Disk b base all s c.args.disk.now k.sound.now c.enter_all.new.writer c.enter_all.new.disk c.undo_all.new.writer c.undo_all.new.disk c.undo_all.result k.sound.goes
    (c.undo_all.ensures.kept b base all k.sound.now k.sound.goes.stands k.sound.goes.undoing k.sound.are)

pub returns-in_err-enter_all-clause-none : goal.returns-in_err-enter_all-clause-none
returns-in_err-enter_all-clause-none g c is = let e = (c.in_err-enter_all.ensures.none is).0 in absurd (cc e)

pub returns-clause-none : goal.returns-clause-none
returns-clause-none g c is = let first = c.in_ok-enter_all.ensures.none is in let last = c.undo_all.ensures.none first.2 in (last.0, last.1 ∙ first.1, last.2 ∙ first.3)

pub returns-in_err-enter_all-clause-used_up : goal.returns-in_err-enter_all-clause-used_up
returns-in_err-enter_all-clause-used_up g c b base all s stands is are =
    err_on c.from_residual.result c.in_err-enter_all.field-0.0 (λ e. e ≡ Capacity → RunsOut b all) c.from_residual.ensures.1 (λ full. never_numbers g.D.Disk c.in_err-enter_all.ensures.outcome full)

pub returns-clause-used_up : goal.returns-clause-used_up
returns-clause-used_up g c b base all s stands is are =
    let k = c.in_ok-enter_all.ensures.kept b base all s stands is are in
    c.undo_all.ensures.used_up b base all k.sound.now k.sound.goes.stands k.sound.goes.undoing k.sound.are
