use Rattle.im_page_writer.proofs.Outcomes.{idle_any}
use Rattle.im_page_flush.proofs.Placing.{held_none}
use Rattle.im_page_writer.proofs.page_writer.PageWriter.flush_far.Goals as goal

pub returns-then-not-is_large-clause-outcome : goal.returns-then-not-is_large-clause-outcome
returns-then-not-is_large-clause-outcome g c = idle_any g.D.Disk g.met.D.Disk.only_now c.args.self.now c.args.disk.now c.requires.working c.requires.ready

pub returns-then-not-is_large-clause-held : goal.returns-then-not-is_large-clause-held
returns-then-not-is_large-clause-held g c = held_none c.args.self.now.pool
