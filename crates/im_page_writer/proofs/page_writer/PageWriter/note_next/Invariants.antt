use Rattle.std.proofs.Common.{◌≡◌, None}
use Rattle.im_base_disk.specs.Runs.{Reads}
use Rattle.im_page_writer.specs.Outcome.{Flushes}
use Rattle.im_page_flush.specs.Rooms.{KeepsRoom}
use Rattle.im_page_writer.proofs.page_writer.PageWriter.note_next.Given as goal

abbrev pub invariant-loop-at : goal.invariant-loop-at
invariant-loop-at g l = record {
  outcome : Flushes g.D.Disk l.fn.self l.fn.disk l.self l.disk None;
  pool : l.self.pool ≡ l.fn.self.pool;
  reads : Reads g.D.Disk l.fn.disk l.disk;
  room : KeepsRoom l.fn.self.table l.self.table;
  numbers : l.self.numbers ≡ l.fn.self.numbers;
}
