use Rattle.im_page_writer.proofs.Outcomes.{idle_any}
use Rattle.im_page_writer.proofs.page_writer.PageWriter.make_frame.Goals as goal

pub returns-then-not-is_full-clause-outcome : goal.returns-then-not-is_full-clause-outcome
returns-then-not-is_full-clause-outcome g c = idle_any g.D.Disk g.met.D.Disk.only_now c.args.self.now c.args.disk.now c.requires.working c.requires.ready
