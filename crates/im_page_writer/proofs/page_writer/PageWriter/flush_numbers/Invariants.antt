use Rattle.std.proofs.Common.{◌≡◌, ℕ, None}
use Rattle.im_theory_log.specs.Histories.{Base}
use Rattle.im_theory_log.specs.Writer.{Writer}
use Rattle.im_page_writer.specs.Outcome.{Flushes}
use Rattle.im_page_writer.specs.PageWriter.{StandsAs}
use Rattle.im_page_writer.specs.FlushedRows.{FlushedNumbers}
use Rattle.im_page_flush.specs.Writing.{SameHeld}
use Rattle.im_page_writer.proofs.page_writer.PageWriter.flush_numbers.Given as goal

abbrev pub invariant-loop-i : goal.invariant-loop-i
invariant-loop-i g l = record {
  outcome : Flushes g.D.Disk l.fn.self l.fn.disk l.self l.disk None;
  numbers : l.self.numbers ≡ l.fn.self.numbers;
  held : SameHeld l.fn.self.pool l.self.pool;
  unmoved : l.i ≡ 0 → l.disk ≡ l.fn.disk;
  flushed : (b : Base) (base : ℕ) (s : Writer) → StandsAs g.D.Disk b base s l.fn.self l.fn.disk → FlushedNumbers g.D.Disk b base s l.fn.self.numbers.items l.i l.fn.disk l.self l.disk;
}
