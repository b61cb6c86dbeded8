use Rattle.im_page_writer.proofs.Outcomes.{idle_any}
use Rattle.im_page_flush.proofs.Placing.{held_none}
use Rattle.im_page_writer.proofs.page_writer.PageWriter.flush_where_copied.Goals as goal

pub returns-then-is_none-clause-outcome : goal.returns-then-is_none-clause-outcome
returns-then-is_none-clause-outcome g c = idle_any g.D.Disk g.met.D.Disk.only_now c.args.self.now c.args.disk.now c.requires.working c.requires.ready

pub returns-then-is_none-clause-held : goal.returns-then-is_none-clause-held
returns-then-is_none-clause-held g c = held_none c.args.self.now.pool
