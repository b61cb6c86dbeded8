use Rattle.im_page_writer.specs.Outcome.{AsksNothing}
use Rattle.im_page_writer.proofs.LoggedChanges.{ok_with}
use Rattle.im_page_writer.proofs.Outcomes.{behind, handed_on, none_still, stands_on}
use Rattle.im_page_writer.proofs.Redoing.{rooms_still}
use Rattle.im_page_writer.proofs.page_writer.PageWriter.make_rooms.Goals as goal

pub returns-in_err-make_room-clause-outcome : goal.returns-in_err-make_room-clause-outcome
returns-in_err-make_room-clause-outcome g c = handed_on g.D.Disk c.from_residual.result c.from_residual.ensures.1 c.in_err-make_room.ensures.outcome

pub returns-clause-outcome : goal.returns-clause-outcome
returns-clause-outcome g c = behind g.D.Disk AsksNothing none_still c.in_ok-make_room.ensures.outcome c.make_entry_room.ensures.outcome

pub returns-clause-rooms : goal.returns-clause-rooms
returns-clause-rooms g c b base s is =
    let first = c.in_ok-make_room.ensures.outcome.ends.goes b base s is tt in
    let mid = c.make_room.new.self in
    let here = stands_on g.D.Disk b base s c.args.disk.now first.now mid c.make_room.new.disk first.on in
    let e = c.make_entry_room.ensures in
    ok_with c.make_entry_room.result _ _ _ (e.kept b base first.now here) e.held (λ room same. rooms_still c.args.number mid.pool c.make_entry_room.new.self.pool c.make_entry_room.new.self.table same c.in_ok-make_room.ensures.room room.room)
