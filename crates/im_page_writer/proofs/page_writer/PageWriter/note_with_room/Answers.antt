use Rattle.im_base_disk.proofs.Runs.{reads_none}
use Rattle.im_page_writer.proofs.Outcomes.{idle_any}
use Rattle.im_page_writer.proofs.page_writer.PageWriter.note_with_room.Goals as goal

pub returns-then-not-takes-clause-outcome : goal.returns-then-not-takes-clause-outcome
returns-then-not-takes-clause-outcome g c = idle_any g.D.Disk g.met.D.Disk.only_now c.args.self.now c.args.disk.now c.requires.working c.requires.ready

pub returns-then-is_some-clause-outcome : goal.returns-then-is_some-clause-outcome
returns-then-is_some-clause-outcome g c = idle_any g.D.Disk g.met.D.Disk.only_now c.args.self.now c.args.disk.now c.requires.working c.requires.ready

pub returns-then-not-takes-clause-reads : goal.returns-then-not-takes-clause-reads
returns-then-not-takes-clause-reads g c = reads_none g.D.Disk c.args.disk.now

pub returns-then-is_some-clause-reads : goal.returns-then-is_some-clause-reads
returns-then-is_some-clause-reads g c = reads_none g.D.Disk c.args.disk.now
