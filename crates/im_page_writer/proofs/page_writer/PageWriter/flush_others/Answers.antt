use Rattle.im_page_writer.proofs.Outcomes.{idle_any}
use Rattle.im_page_flush.proofs.Placing.{held_none}
use Rattle.im_page_writer.proofs.page_writer.PageWriter.flush_others.Goals as goal

pub returns-then-not-is_changed-clause-outcome : goal.returns-then-not-is_changed-clause-outcome
returns-then-not-is_changed-clause-outcome g c = idle_any g.D.Disk g.met.D.Disk.only_now c.args.self.now c.args.disk.now c.requires.working c.requires.ready

pub returns-then-not-is_changed-clause-held : goal.returns-then-not-is_changed-clause-held
returns-then-not-is_changed-clause-held g c = held_none c.args.self.now.pool

pub returns-then-is_some-clause-outcome : goal.returns-then-is_some-clause-outcome
returns-then-is_some-clause-outcome g c = idle_any g.D.Disk g.met.D.Disk.only_now c.args.self.now c.args.disk.now c.requires.working c.requires.ready

pub returns-then-is_some-clause-held : goal.returns-then-is_some-clause-held
returns-then-is_some-clause-held g c = held_none c.args.self.now.pool

pub returns-then-is_unforced-clause-outcome : goal.returns-then-is_unforced-clause-outcome
returns-then-is_unforced-clause-outcome g c = idle_any g.D.Disk g.met.D.Disk.only_now c.args.self.now c.args.disk.now c.requires.working c.requires.ready

pub returns-then-is_unforced-clause-held : goal.returns-then-is_unforced-clause-held
returns-then-is_unforced-clause-held g c = held_none c.args.self.now.pool
