use Rattle.std.proofs.Common.{None}
use Rattle.im_page_writer.specs.Outcome.{Flushes}
use Rattle.im_page_flush.specs.Writing.{SameHeld}
use Rattle.im_page_writer.proofs.page_writer.PageWriter.flush_half.Given as goal

abbrev pub invariant-loop-company : goal.invariant-loop-company
invariant-loop-company g l = record {
  outcome : Flushes g.D.Disk l.fn.self l.fn.disk l.self l.disk None;
  held : SameHeld l.fn.self.pool l.self.pool;
}
