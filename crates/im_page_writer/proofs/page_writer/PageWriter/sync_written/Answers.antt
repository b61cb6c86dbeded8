use Rattle.im_theory_log.specs.WriterSteps.{synced}
use Rattle.im_page_file.proofs.LogEnds.{ends_as}
use Rattle.im_page_table.proofs.Growing.{on_ok}
use Rattle.im_page_flush.proofs.Goings.{leaves_last}
use Rattle.im_page_writer.proofs.Outcomes.{step_flushes}
use Rattle.im_page_writer.proofs.Writers.{goes_on_start}
use Rattle.im_page_writer.proofs.page_writer.PageWriter.sync_written.Goals as goal

pub returns-clause-outcome : goal.returns-clause-outcome
returns-clause-outcome g c =
    let e = c.sync_pages.ensures in
    let v = c.args.self.now in
    let disk = c.args.disk.now in
    step_flushes g.D.Disk c.sync_pages.result e.outcome e.room (ends_as v.log c.sync_pages.new.self.log e.log)
    (λ b base s is. on_ok c.sync_pages.result _ _ (e.kept b base s is).ok (λ on. record { now = synced s; on = on }))
    (λ b base s is. leaves_last g.D.Disk b base s disk s v.log v.table v.pool disk (goes_on_start g.D.Disk b base s v disk (g.met.D.Disk.only_now disk) is).goes c.sync_pages.new.disk (e.kept b base s is).stops)

pub returns-clause-kept : goal.returns-clause-kept
returns-clause-kept g c b base s is = (c.sync_pages.ensures.kept b base s is).ok
