use Rattle.std.proofs.Common.{refl}
use Rattle.im_page_writer.proofs.Outcomes.{sound_on}
use Rattle.im_engine_rollback.proofs.Ends.{end_sound}
use Rattle.im_engine_rollback.proofs.Turning.{ended_so, left_covered}
use Rattle.im_engine_rollback.proofs.undo_step.log_end.Goals as goal

pub returns-in_err-log_only-clause-kept : goal.returns-in_err-log_only-clause-kept
returns-in_err-log_only-clause-kept g c b base s e undo_next going loser none =
    let k = c.log_only.ensures.kept b base s e going.stands going.over (record { page = λ l x. refl; copy = λ l. refl; point = refl }) in
    record {
      sound = sound_on c.from_residual.result _ _ c.from_residual.ensures.1 (end_sound g.D.Disk c.in_err-log_only.ensures.outcome);
      stops = left_covered g.D.Disk b base s c.args.transaction c.args.disk.now c.log_only.new.disk going.lawful k.stops;
    }

pub returns-clause-kept : goal.returns-clause-kept
returns-clause-kept g c b base s e undo_next going loser none =
    let k = c.in_ok-log_only.ensures.kept b base s e going.stands going.over (record { page = λ l x. refl; copy = λ l. refl; point = refl }) in
    record {
      sound = ended_so g.D.Disk b base s e c.args.transaction c.args.last undo_next c.in_ok-log_only.field-0 c.args.disk.now c.args.writer.now c.log_only.new.self c.log_only.new.disk going loser none k.ok;
      stops = left_covered g.D.Disk b base s c.args.transaction c.args.disk.now c.log_only.new.disk going.lawful k.stops;
    }
