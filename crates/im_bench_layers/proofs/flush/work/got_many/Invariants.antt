use Rattle.im_page_writer.specs.PageWriter.{IsReadyWriter}
use Rattle.im_bench_layers.proofs.flush.work.got_many.Given as goal

abbrev pub invariant-loop : goal.invariant-loop
invariant-loop g l = IsReadyWriter g.D.Disk l.writer l.disk
