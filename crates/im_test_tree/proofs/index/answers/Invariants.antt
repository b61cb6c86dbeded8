use Rattle.im_page_writer.specs.PageWriter.{IsReadyWriter}
use Rattle.im_test_tree.proofs.index.answers.Given as goal

abbrev pub invariant-loop-ask : goal.invariant-loop-ask
invariant-loop-ask g l = IsReadyWriter g.D.Disk l.writer l.disk
