use Rattle.im_page_writer.specs.Outcome.{AsksNothing}
use Rattle.im_page_writer.proofs.Outcomes.{behind, handed_on, idle_any, none_still}
use Rattle.im_page_writer.proofs.page_writer.PageWriter.flush_all.Goals as goal

pub loop-company-init : goal.loop-company-init
loop-company-init g c = idle_any g.D.Disk g.met.D.Disk.only_now c.args.self.now c.args.disk.now c.requires.working c.requires.ready

pub loop-company-preserved : goal.loop-company-preserved
loop-company-preserved g c = behind g.D.Disk AsksNothing none_still c.loop-company.invariant c.in_ok-flush_next.ensures.outcome

pub returns-in_err-flush_next : goal.returns-in_err-flush_next
returns-in_err-flush_next g c = record { outcome = handed_on g.D.Disk c.from_residual.result c.from_residual.ensures.1 (behind g.D.Disk AsksNothing none_still c.loop-company.invariant c.in_err-flush_next.ensures.outcome) }
