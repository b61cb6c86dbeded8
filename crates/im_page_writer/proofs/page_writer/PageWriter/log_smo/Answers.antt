use Rattle.im_page_flush.proofs.Goings.{leaves_so_far}
use Rattle.im_page_writer.proofs.LoggedChanges.{none_ok}
use Rattle.im_page_writer.proofs.Outcomes.{idle_logs}
use Rattle.im_page_writer.proofs.Structure.{no_after}
use Rattle.im_page_writer.proofs.Writers.{goes_on_start}
use Rattle.im_page_writer.proofs.page_writer.PageWriter.log_smo.Goals as goal

pub returns-in_default-clause-kept : goal.returns-in_default-clause-kept
returns-in_default-clause-kept g c b base s e is over =
    let w = c.args.self.now in
    let old = c.args.disk.now in
    let on = goes_on_start g.D.Disk b base s w old (g.met.D.Disk.only_now old) is in
    record {
      ok = none_ok c.not_a_change.result _ c.not_a_change.ensures.never;
      stops = leaves_so_far g.D.Disk b base s old s w.log w.table w.pool old on.goes;
      cause = λ has. absurd (has (no_after c.args.record.now c.in_default.not-Smo c.in_default.not-UndoSmo));
    }

pub returns-in_default-clause-outcome : goal.returns-in_default-clause-outcome
returns-in_default-clause-outcome g c = idle_logs g.D.Disk g.met.D.Disk.only_now c.args.self.now c.args.disk.now c.requires.ready c.not_a_change.result c.not_a_change.ensures.refused c.not_a_change.ensures.already c.not_a_change.ensures.never
