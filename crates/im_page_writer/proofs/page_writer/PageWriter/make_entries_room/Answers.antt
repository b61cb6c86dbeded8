use Rattle.std.proofs.Common.{rules}
use Rattle.im_theory_log.specs.WriterSteps.{synced}
use Rattle.im_page_writer.specs.Outcome.{AsksNothing}
use Rattle.im_page_writer.proofs.Outcomes.{behind, idle_any, none_still, stands_on}
use Rattle.im_page_writer.proofs.page_writer.PageWriter.make_entries_room.Goals as goal

pub returns-then-has_entries_room-clause-outcome : goal.returns-then-has_entries_room-clause-outcome
returns-then-has_entries_room-clause-outcome g c = idle_any g.D.Disk g.met.D.Disk.only_now c.args.self.now c.args.disk.now (search rules) c.requires.ready

pub returns-clause-outcome : goal.returns-clause-outcome
returns-clause-outcome g c = behind g.D.Disk AsksNothing none_still c.in_ok-sync_written.ensures.outcome c.flush_for_entries.ensures.outcome

pub returns-clause-room : goal.returns-clause-room
returns-clause-room g c b base s is few =
    let on = c.in_ok-sync_written.ensures.kept b base s is in
    c.flush_for_entries.ensures.room b base (synced s) (stands_on g.D.Disk b base s c.args.disk.now (synced s) c.sync_written.new.self c.sync_written.new.disk on) few
