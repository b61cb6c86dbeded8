use Rattle.std.proofs.Common.{◌∙◌}
use Rattle.im_base_disk.proofs.Runs.{reads_none, reads_then}
use Rattle.im_page_writer.specs.Outcome.{AsksNothing}
use Rattle.im_page_writer.proofs.Outcomes.{behind, handed_on, idle_any, none_still}
use Rattle.im_page_writer.proofs.page_writer.PageWriter.note_company.Goals as goal

pub returns-then-not-wants_force-clause-outcome : goal.returns-then-not-wants_force-clause-outcome
returns-then-not-wants_force-clause-outcome g c = idle_any g.D.Disk g.met.D.Disk.only_now c.args.self.now c.args.disk.now c.requires.working c.requires.ready

pub returns-then-not-wants_force-clause-reads : goal.returns-then-not-wants_force-clause-reads
returns-then-not-wants_force-clause-reads g c = reads_none g.D.Disk c.args.disk.now

pub returns-in_err-note_with_room-clause-outcome : goal.returns-in_err-note_with_room-clause-outcome
returns-in_err-note_with_room-clause-outcome g c = handed_on g.D.Disk c.from_residual.result c.from_residual.ensures.1 c.in_err-note_with_room.ensures.outcome

pub returns-clause-outcome : goal.returns-clause-outcome
returns-clause-outcome g c = behind g.D.Disk AsksNothing none_still c.in_ok-note_with_room.ensures.outcome c.note_oldest.ensures.outcome

pub returns-clause-pool : goal.returns-clause-pool
returns-clause-pool g c = c.note_oldest.ensures.pool ∙ c.note_with_room.ensures.pool

pub returns-clause-reads : goal.returns-clause-reads
returns-clause-reads g c = reads_then g.D.Disk c.args.disk.now c.note_with_room.new.disk c.note_oldest.new.disk c.note_with_room.ensures.reads c.note_oldest.ensures.reads

pub returns-clause-room : goal.returns-clause-room
returns-clause-room g c q has = c.note_oldest.ensures.room q (c.note_with_room.ensures.room q has)

pub returns-clause-numbers : goal.returns-clause-numbers
returns-clause-numbers g c = c.note_oldest.ensures.numbers ∙ c.note_with_room.ensures.numbers
