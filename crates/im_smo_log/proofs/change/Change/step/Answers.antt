use Rattle.std.proofs.Common.{refl, arith}
use Rattle.im_page_writer.proofs.Outcomes.{log_refused, sound_on}
use Rattle.im_smo_log.proofs.Stepping.{step_goes}
use Rattle.im_smo_log.proofs.change.Change.step.Goals as goal

pub returns-in_err-lsn-clause-outcome : goal.returns-in_err-lsn-clause-outcome
returns-in_err-lsn-clause-outcome g c = log_refused g.D.Disk c.from_residual.result c.from_residual.ensures.1 c.in_err-lsn.ensures.outcome

pub returns-in_err-lsn-clause-kept : goal.returns-in_err-lsn-clause-kept
returns-in_err-lsn-clause-kept g c b base s e is over =
    let k = c.in_err-lsn.ensures.kept b base s e is over in
    record { sound = sound_on c.from_residual.result _ _ c.from_residual.ensures.1 k.sound; stops = k.stops }

pub returns-clause-outcome : goal.returns-clause-outcome
returns-clause-outcome g c = c.in_ok-lsn.ensures.outcome

pub returns-clause-kept : goal.returns-clause-kept
returns-clause-kept g c b base s e is over =
    let k = c.in_ok-lsn.ensures.kept b base s e is over in
    let change = c.args.self.now in
    record {
      sound = record {
        logged = k.sound;
        images = refl;
        done = omega arith;
        owner = refl;
        leads = refl;
        goes = step_goes g.D.Disk b base s e c.args.writer.now c.args.disk.now is over change.transaction change.undo_next change.images change.done change.last c.args.marked c.in_ok-lsn.lsn c.log_image.new.writer c.log_image.new.disk change.counted c.requires.left k.sound;
      };
      stops = k.stops;
    }
