use Rattle.std.proofs.Common.{None}
use Rattle.im_page_writer.specs.Outcome.{Flushes}
use Rattle.im_page_flush.specs.Writing.{SameHeld}
use Rattle.im_page_writer.proofs.page_writer.PageWriter.flush_copied.Given as goal

abbrev pub invariant-loop-i : goal.invariant-loop-i
invariant-loop-i g l = record {
  outcome : Flushes g.D.Disk l.fn.self l.fn.disk l.self l.disk None;
  held : SameHeld l.fn.self.pool l.self.pool;
}
