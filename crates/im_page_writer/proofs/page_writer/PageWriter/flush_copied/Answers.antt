use Rattle.im_page_writer.specs.Outcome.{AsksNothing}
use Rattle.im_page_writer.proofs.Outcomes.{behind, handed_on, idle_any, none_still}
use Rattle.im_page_flush.proofs.Placing.{held_none, held_then}
use Rattle.im_page_writer.proofs.page_writer.PageWriter.flush_copied.Goals as goal

pub loop-i-init : goal.loop-i-init
loop-i-init g c = record { outcome = idle_any g.D.Disk g.met.D.Disk.only_now c.args.self.now c.args.disk.now c.requires.working c.requires.ready; held = held_none c.args.self.now.pool }

pub loop-i-preserved : goal.loop-i-preserved
loop-i-preserved g c = record {
  outcome = behind g.D.Disk AsksNothing none_still c.loop-i.invariant.outcome c.in_ok-flush_where_copied.ensures.outcome;
  held = held_then c.args.self.now.pool c.loop-i.self.pool c.flush_where_copied.new.self.pool c.loop-i.invariant.held c.in_ok-flush_where_copied.ensures.held;
}

pub returns-in_err-flush_where_copied-clause-outcome : goal.returns-in_err-flush_where_copied-clause-outcome
returns-in_err-flush_where_copied-clause-outcome g c = handed_on g.D.Disk c.from_residual.result c.from_residual.ensures.1 (behind g.D.Disk AsksNothing none_still c.loop-i.invariant.outcome c.in_err-flush_where_copied.ensures.outcome)
