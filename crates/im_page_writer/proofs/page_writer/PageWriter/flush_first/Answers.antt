use Rattle.std.proofs.Common.{refl}
use Rattle.im_page_table.proofs.Growing.{on_ok}
use Rattle.im_page_writer.specs.PageWriter.{next_written}
use Rattle.im_page_writer.proofs.Outcomes.{idle_any}
use Rattle.im_page_writer.proofs.TableRoom.{next_absent, next_done}
use Rattle.im_page_writer.proofs.Writers.{goes_on_start}
use Rattle.im_page_writer.proofs.page_writer.PageWriter.flush_first.Goals as goal

pub returns-in-None-clause-outcome : goal.returns-in-None-clause-outcome
returns-in-None-clause-outcome g c = idle_any g.D.Disk g.met.D.Disk.only_now c.args.self.now c.args.disk.now c.requires.working c.requires.ready

pub returns-in-None-clause-kept : goal.returns-in-None-clause-kept
returns-in-None-clause-kept g c b base s is =
    let w = c.args.self.now in
    let old = c.args.disk.now in
    record { now = s; on = goes_on_start g.D.Disk b base s w old (g.met.D.Disk.only_now old) is; next = next_absent g.D.Disk b base s w old is (λ p named. c.in-None.ensures.none p refl named) }

pub returns-in-Some-clause-kept : goal.returns-in-Some-clause-kept
returns-in-Some-clause-kept g c b base s is =
    on_ok c.flush_for_room.result _ _ (c.flush_for_room.ensures.kept b base s is)
    (λ f. record { now = f.now; on = f.on; next = next_done (next_written c.args.self.now) f.now.pages c.in-Some.frame.number c.in-Some.ensures.next f.written })
