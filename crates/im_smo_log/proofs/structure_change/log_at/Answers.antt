use Rattle.im_page_writer.proofs.Outcomes.{logs_late}
use Rattle.im_smo_log.proofs.Refusals.{answered, failed_later, failed_memory, memory_first, memory_stays, never_failed, still_store}
use Rattle.im_page_writer.specs.Outcome.{mild}
use Rattle.im_smo_log.proofs.structure_change.log_at.Goals as goal

pub returns-in-Ok-clause-outcome : goal.returns-in-Ok-clause-outcome
returns-in-Ok-clause-outcome g c = logs_late g.D.Disk {m = mild} (λ e is. is) c.requires.working c.in-Ok.ensures.outcome

pub returns-in-Ok-clause-kept : goal.returns-in-Ok-clause-kept
returns-in-Ok-clause-kept g c b base s e is over = let k = c.in-Ok.ensures.kept b base s e is over in record { sound = k.sound; stops = k.stops; late = tt }

pub returns-in-Err-clause-outcome : goal.returns-in-Err-clause-outcome
returns-in-Err-clause-outcome g c =
    let says = c.refused_at.ensures in
    answered g.D.Disk c.args.i c.in-Err.fault c.refused_at.result says.first says.late says.others c.requires.working c.in-Err.ensures.outcome

pub returns-in-Err-clause-kept : goal.returns-in-Err-clause-kept
returns-in-Err-clause-kept g c b base s e is over =
    let k = c.in-Err.ensures.kept b base s e is over in
    let f = c.in-Err.fault in
    let says = c.refused_at.ensures in
    let never = never_failed g.D.Disk f c.requires.working c.in-Err.ensures.outcome in
    record {
      sound = still_store c.args.i f c.refused_at.result says.first says.late says.others k.sound;
      stops = k.stops;
      late = λ same. (memory_stays g.D.Disk f (failed_memory c.args.i f c.refused_at.result says.first says.late says.others never same) c.in-Err.ensures.outcome).goes b base s is (λ q. ((is.writing.stands.kept.pages q).run e over).0);
    }

pub returns-in-Err-clause-first : goal.returns-in-Err-clause-first
returns-in-Err-clause-first g c = let says = c.refused_at.ensures in memory_first c.args.i c.in-Err.fault c.refused_at.result says.first says.late says.others

pub returns-in-Err-clause-later : goal.returns-in-Err-clause-later
returns-in-Err-clause-later g c =
    let says = c.refused_at.ensures in
    failed_later c.args.i c.in-Err.fault c.refused_at.result says.first says.late says.others (never_failed g.D.Disk c.in-Err.fault c.requires.working c.in-Err.ensures.outcome)
