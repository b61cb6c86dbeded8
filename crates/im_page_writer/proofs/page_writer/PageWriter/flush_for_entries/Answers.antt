use Rattle.std.proofs.Common.{arith}
use Rattle.im_page_table.proofs.Growing.{on_ok}
use Rattle.im_page_writer.proofs.Outcomes.{idle_any}
use Rattle.im_page_writer.proofs.Sized.{least}
use Rattle.im_page_writer.proofs.page_writer.PageWriter.flush_for_entries.Goals as goal

pub returns-then-has_entries_room-clause-outcome : goal.returns-then-has_entries_room-clause-outcome
returns-then-has_entries_room-clause-outcome g c = idle_any g.D.Disk g.met.D.Disk.only_now c.args.self.now c.args.disk.now c.requires.working c.requires.ready

pub returns-clause-room : goal.returns-clause-room
returns-clause-room g c b base s is few = on_ok c.flush_and_sync.result _ _ (c.flush_and_sync.ensures.empty b base s is) (λ none. let size = least c.flush_and_sync.new.self in omega (arith, none, few, size))
