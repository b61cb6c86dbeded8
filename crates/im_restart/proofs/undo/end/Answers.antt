use Rattle.std.proofs.Common.{refl}
use Rattle.im_page_writer.proofs.Outcomes.{sound_on}
use Rattle.im_restart_redo.proofs.Recoveries.{logs_recover, mildly, never_none, recovers_more, recovery_refused}
use Rattle.im_restart.proofs.Ends.{no_store}
use Rattle.im_restart.proofs.Steps.{ended_so, left_here}
use Rattle.im_restart.proofs.undo.end.Goals as goal

pub returns-then-chain-eq0-clause-outcome : goal.returns-then-chain-eq0-clause-outcome
returns-then-chain-eq0-clause-outcome g c = no_store g.D.Disk c.args.writer.now c.args.disk.now refl c.requires.working c.requires.ready

pub returns-in_err-log_only-clause-outcome : goal.returns-in_err-log_only-clause-outcome
returns-in_err-log_only-clause-outcome g c = recovery_refused g.D.Disk c.from_residual.result c.from_residual.ensures.1 (recovers_more g.D.Disk mildly (logs_recover g.D.Disk c.in_err-log_only.ensures.outcome))

pub returns-clause-outcome : goal.returns-clause-outcome
returns-clause-outcome g c = recovers_more g.D.Disk mildly (logs_recover g.D.Disk c.in_ok-log_only.ensures.outcome)

pub returns-in_err-log_only-clause-kept : goal.returns-in_err-log_only-clause-kept
returns-in_err-log_only-clause-kept g c b base all s stands is goes =
    let k = c.log_only.ensures.kept b base s is.redo_end stands is.over (record { page = λ l x. refl; copy = λ l. refl; point = refl }) in
    record {
      sound = sound_on c.from_residual.result _ _ c.from_residual.ensures.1 (never_none g.D.Disk c.in_err-log_only.field-0.0 (logs_recover g.D.Disk c.in_err-log_only.ensures.outcome));
      stops = left_here g.D.Disk b base all s c.args.disk.now c.log_only.new.disk is k.stops;
    }

pub returns-clause-kept : goal.returns-clause-kept
returns-clause-kept g c b base all s stands is goes =
    let k = c.in_ok-log_only.ensures.kept b base s is.redo_end stands is.over (record { page = λ l x. refl; copy = λ l. refl; point = refl }) in
    record {
      sound = ended_so g.D.Disk b base all s c.args.chain c.in_ok-log_only.field-0 c.args.disk.now c.log_only.new.self c.log_only.new.disk is goes k.stops k.ok;
      stops = left_here g.D.Disk b base all s c.args.disk.now c.log_only.new.disk is k.stops;
    }
