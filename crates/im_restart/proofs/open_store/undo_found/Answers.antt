use Rattle.std.proofs.Common.{◌≡◌, ◌∙◌, ap}
use Rattle.im_base_types.specs.declared.fault.Fault.TheVariants.{Capacity}
use Rattle.im_page_writer.proofs.Cited.{err_on, sound_on}
use Rattle.im_restart_redo.proofs.Recoveries.{recovers_more, recovery_refused}
use Rattle.im_restart_analysis.specs.Losers.{LoserMap}
use Rattle.im_restart.specs.Restart.{RunsOut}
use Rattle.im_restart.proofs.Ends.{never_numbers}
use Rattle.im_restart.proofs.OpenChanges.{change_over}
use Rattle.im_restart.proofs.Undos.{undo_behind}
use Rattle.im_restart.proofs.open_store.undo_found.Goals as goal
use Rattle.im_smo_pages.proofs.Goings.{take_mildly as take_mild}

pub returns-in_err-undo_change-clause-outcome : goal.returns-in_err-undo_change-clause-outcome
returns-in_err-undo_change-clause-outcome g c = recovery_refused g.D.Disk c.from_residual.result c.from_residual.ensures.1 (recovers_more g.D.Disk take_mild c.in_err-undo_change.ensures.outcome)

pub returns-in_err-undo_change-clause-kept : goal.returns-in_err-undo_change-clause-kept
returns-in_err-undo_change-clause-kept g c b base all s stands is rows are =
    let k = c.in_err-undo_change.ensures.kept b base all s stands is rows are in
    record { sound = sound_on c.from_residual.result _ _ c.from_residual.ensures.1 k.sound; stops = k.stops }

pub returns-clause-kept : goal.returns-clause-kept
returns-clause-kept g c b base all s stands is rows are =
    let d = g.D.Disk in
    let k = c.in_ok-undo_change.ensures.kept b base all s stands is rows are in
    let over = change_over d b base all s c.args.disk.now k.sound.now c.undo_change.new.writer c.undo_change.new.disk k.sound.goes k.sound.going in
    undo_behind d b base all s c.args.disk.now k.sound.now c.undo_change.new.writer c.undo_change.new.disk c.undo.new.writer c.undo.new.disk c.undo.result over (c.undo.ensures.kept b base all k.sound.now over.stands over.undoing k.sound.are)

pub returns-in_err-undo_change-clause-none : goal.returns-in_err-undo_change-clause-none
returns-in_err-undo_change-clause-none g c rows losers = let e = (c.in_err-undo_change.ensures.none rows).0 in absurd (cc e)

pub returns-clause-none : goal.returns-clause-none
returns-clause-none g c rows losers =
    let first = c.in_ok-undo_change.ensures.none rows in
    let last = c.undo.ensures.none (ap (λ (m : LoserMap). m.entries) first.2 ∙ losers) in
    (last.0, last.1 ∙ first.1, last.2 ∙ first.3)

pub returns-in_err-undo_change-clause-used_up : goal.returns-in_err-undo_change-clause-used_up
returns-in_err-undo_change-clause-used_up g c b base all s stands is rows are =
    err_on c.from_residual.result c.in_err-undo_change.field-0.0 (λ e. e ≡ Capacity → RunsOut b all) c.from_residual.ensures.1 (λ full. never_numbers g.D.Disk c.in_err-undo_change.ensures.outcome full)

pub returns-clause-used_up : goal.returns-clause-used_up
returns-clause-used_up g c b base all s stands is rows are =
    let k = c.in_ok-undo_change.ensures.kept b base all s stands is rows are in
    let over = change_over g.D.Disk b base all s c.args.disk.now k.sound.now c.undo_change.new.writer c.undo_change.new.disk k.sound.goes k.sound.going in
    c.undo.ensures.used_up b base all k.sound.now over.stands over.undoing k.sound.are
