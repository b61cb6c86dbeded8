use Rattle.im_page_writer.specs.PageWriter.{IsReadyWriter}
use Rattle.im_bench.proofs.tree_work.found_locked.Given as goal

abbrev pub invariant-loop-round : goal.invariant-loop-round
invariant-loop-round g l = IsReadyWriter g.D.Disk l.writer l.disk
