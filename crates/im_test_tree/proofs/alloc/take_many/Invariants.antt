use Rattle.std.proofs.Common.{◌≡◌, false}
use Rattle.im_page_writer.specs.PageWriter.{IsReadyWriter}
use Rattle.im_test_tree.proofs.alloc.take_many.Given as goal

abbrev pub invariant-loop-taken : goal.invariant-loop-taken
invariant-loop-taken g l = record {
  ready : IsReadyWriter g.D.Disk l.writer l.disk;
  works : l.writer.failed ≡ false;
}
