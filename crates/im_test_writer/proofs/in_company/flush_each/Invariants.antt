use Rattle.im_page_writer.specs.PageWriter.{IsReadyWriter}
use Rattle.im_test_writer.proofs.in_company.flush_each.Given as goal

abbrev pub invariant-loop-page : goal.invariant-loop-page
invariant-loop-page g l = record { ready : IsReadyWriter g.D.Disk l.writer l.disk }
