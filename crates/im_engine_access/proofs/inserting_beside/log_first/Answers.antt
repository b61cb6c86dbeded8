use Rattle.im_page_writer.specs.Outcome.{mild}
use Rattle.im_page_writer.proofs.Outcomes.{changed_none, idle, late_behind}
use Rattle.im_engine_access.proofs.Inserts.{late_sound}
use Rattle.im_engine_access.proofs.InsertsBeside.{first_late}
use Rattle.im_engine_access.proofs.inserting_beside.log_first.Goals as goal

pub returns-in-Ok-clause-outcome : goal.returns-in-Ok-clause-outcome
returns-in-Ok-clause-outcome g c = record { ready = c.in-Ok.ensures.outcome.ready; frames = c.in-Ok.ensures.outcome.frames; ends = c.in-Ok.ensures.outcome.ends }

pub returns-in-Ok-clause-kept : goal.returns-in-Ok-clause-kept
returns-in-Ok-clause-kept g c b base s e stands over = let k = c.in-Ok.ensures.kept b base s e stands over in record { sound = k.sound; stops = k.stops; late = tt }

pub returns-in-Err-clause-outcome : goal.returns-in-Err-clause-outcome
returns-in-Err-clause-outcome g c =
    late_behind g.D.Disk {m = mild} (changed_none g.D.Disk {n = mild} (λ e is. is) (idle g.D.Disk g.met.D.Disk.only_now c.args.writer.now c.args.disk.now c.requires.working c.requires.ready)) c.in-Err.ensures.outcome c.late.ensures.memory c.late.ensures.others

pub returns-in-Err-clause-kept : goal.returns-in-Err-clause-kept
returns-in-Err-clause-kept g c b base s e stands over =
    let k = c.in-Err.ensures.kept b base s e stands over in
    record {
      sound = late_sound c.in-Err.fault c.late.result c.late.ensures.memory c.late.ensures.others k.sound;
      stops = k.stops;
      late = first_late g.D.Disk b base s e c.args.writer.now c.args.disk.now c.step.new.writer c.step.new.disk c.in-Err.fault c.late.result stands over c.requires.working c.in-Err.ensures.outcome c.late.ensures.memory c.late.ensures.others;
    }
