use Rattle.im_page_writer.specs.Outcome.{AsksNothing}
use Rattle.im_page_writer.proofs.Outcomes.{behind, handed_on, idle_any, none_still}
use Rattle.im_page_flush.proofs.Placing.{held_none, held_then}
use Rattle.im_page_writer.proofs.page_writer.PageWriter.flush_half.Goals as goal

pub loop-company-init : goal.loop-company-init
loop-company-init g c = record { outcome = idle_any g.D.Disk g.met.D.Disk.only_now c.args.self.now c.args.disk.now c.requires.working c.requires.ready; held = held_none c.args.self.now.pool }

pub loop-company-preserved : goal.loop-company-preserved
loop-company-preserved g c = record {
  outcome = behind g.D.Disk AsksNothing none_still c.loop-company.invariant.outcome c.in_ok-flush_next.ensures.outcome;
  held = held_then c.args.self.now.pool c.loop-company.self.pool c.flush_next.new.self.pool c.loop-company.invariant.held c.in_ok-flush_next.ensures.held;
}

pub returns-in_err-flush_next-clause-outcome : goal.returns-in_err-flush_next-clause-outcome
returns-in_err-flush_next-clause-outcome g c = handed_on g.D.Disk c.from_residual.result c.from_residual.ensures.1 (behind g.D.Disk AsksNothing none_still c.loop-company.invariant.outcome c.in_err-flush_next.ensures.outcome)
