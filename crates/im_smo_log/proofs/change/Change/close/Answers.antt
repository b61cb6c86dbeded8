use Rattle.im_smo_pages.proofs.Results.{if_ok}
use Rattle.im_smo_log.proofs.Refusals.{closing_sound}
use Rattle.im_smo_log.proofs.Stepping.{close_goes}
use Rattle.im_smo_log.proofs.change.Change.close.Goals as goal

pub returns-clause-kept : goal.returns-clause-kept
returns-clause-kept g c b base s e is over =
    let change = c.args.self.now in
    let kept = c.log_closing.ensures.kept b base s e is over in
    record {
      sound = closing_sound g.D.Disk c.log_closing.result _
          (if_ok c.log_closing.result _ _ kept.ok (λ lsn done. record {
            logged = done;
            goes = close_goes g.D.Disk b base s e c.args.writer.now c.args.disk.now is over change.transaction change.undo_next change.images change.done change.last lsn c.log_closing.new.writer c.log_closing.new.disk change.counted c.requires.end done;
          }))
          c.log_closing.ensures.outcome;
      stops = kept.stops;
    }
