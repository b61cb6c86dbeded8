use Rattle.std.proofs.Common.{◌≡◌, sym, subst}
use Rattle.im_page_writer.proofs.Cited.{sound_on, err_on}
use Rattle.im_restart_redo.proofs.Recoveries.{recovers_more, recovers_then}
use Rattle.im_base_types.specs.declared.fault.Fault.TheVariants.{Capacity}
use Rattle.im_restart.specs.Restart.{RunsOut}
use Rattle.im_restart.proofs.Ends.{no_numbers}
use Rattle.im_log_record.specs.Entry.{view, prev_of}
use Rattle.im_theory_tree.specs.Theory.{page_tree}
use Rattle.im_restart.specs.LoserChains.{GoesOnAt, chain_of}
use Rattle.im_restart.proofs.Readings.{goes_behind}
use Rattle.im_restart.proofs.Undos.{chains_then, step_then}
use Rattle.im_restart.proofs.undo.undo_key.Goals as goal
use Rattle.im_smo_pages.proofs.Goings.{take_mildly as take_mild}

pub returns-clause-outcome : goal.returns-clause-outcome
returns-clause-outcome g c = recovers_then g.D.Disk c.in_ok-last.ensures.outcome (recovers_more g.D.Disk take_mild c.put_or_end.ensures.outcome)

pub returns-in_err-last-clause-kept : goal.returns-in_err-last-clause-kept
returns-in_err-last-clause-kept g c b base all s out stands is are left to =
    let k = c.in_err-last.ensures.kept b base all s stands is to in
    record { sound = sound_on c.from_residual.result _ _ c.from_residual.ensures.1 k.sound; stops = k.stops }

pub returns-clause-kept : goal.returns-clause-kept
returns-clause-kept g c b base all s out stands is are left to =
    let t = c.args.chain.transaction in
    let done = (c.in_ok-last.ensures.kept b base all s stands is to).sound in
    let lsn = c.in_ok-last.last in
    let now = done.now in
    let goes : GoesOnAt (chain_of t lsn c.args.next) c.args.next now.log =
    subst (λ n. GoesOnAt (chain_of t lsn n) n now.log) (sym c.requires.next) (goes_behind b page_tree now.log t lsn (prev_of (view c.args.«record».now)) done.goes.undoing.can.lawful done.loser done.row) in
    step_then g.D.Disk b base all s t out c.args.disk.now now c.compensate.new.writer c.compensate.new.disk c.put_or_end.new.writer c.put_or_end.new.chains c.put_or_end.new.disk c.put_or_end.result done.goes done.others
    (c.put_or_end.ensures.kept b base all now out done.goes.stands done.goes.undoing (chains_then g.D.Disk b base all s t out c.args.chains.now c.args.disk.now now c.compensate.new.writer c.compensate.new.disk is done.goes done.others are) left goes)

pub returns-in_err-last-clause-used_up : goal.returns-in_err-last-clause-used_up
returns-in_err-last-clause-used_up g c b base all s stands is to =
    err_on c.from_residual.result c.in_err-last.field-0.0 (λ e. e ≡ Capacity → RunsOut b all) c.from_residual.ensures.1 (c.in_err-last.ensures.used_up b base all s stands is to)

pub returns-clause-used_up : goal.returns-clause-used_up
returns-clause-used_up g c b base all s stands is to = no_numbers g.D.Disk c.put_or_end.result c.put_or_end.ensures.outcome (RunsOut b all)
