use Rattle.std.proofs.Common.{◌≡◌, ℕ, true, subst, ◌∙◌}
use Rattle.std.specs.Prelude.{is_some}
use Rattle.im_page_pool.specs.Pool.{held_of}
use Rattle.im_page_writer.specs.Outcome.{AreLoadedTo, pages_of}
use Rattle.im_page_writer.proofs.LoggedChanges.{at_held, err_on, found_room}
use Rattle.im_page_writer.proofs.Outcomes.{behind, flush_asks, flush_sound, handed_on, loaded_to_still, own_bytes, pages_as, stands_on}
use Rattle.im_page_writer.proofs.page_writer.PageWriter.hold_with_room.Goals as goal

pub returns-in_err-get-clause-sound : goal.returns-in_err-get-clause-sound
returns-in_err-get-clause-sound g c b base s is ready = err_on c.from_residual.result c.in_err-get.field-0.0 _ c.from_residual.ensures.1 (c.in_err-get.ensures.kept (pages_of s) (pages_as g.D.Disk b base s c.args.self.now c.args.disk.now is ready))

pub returns-in_err-make_entry_room-clause-outcome : goal.returns-in_err-make_entry_room-clause-outcome
returns-in_err-make_entry_room-clause-outcome g c =
    handed_on g.D.Disk c.from_residual-in_err-make_entry_room.result c.from_residual-in_err-make_entry_room.ensures.1
    (behind g.D.Disk (AreLoadedTo c.args.number) (loaded_to_still c.args.number) c.in_ok-get.ensures.outcome (flush_asks g.D.Disk c.in_err-make_entry_room.ensures.outcome))

pub returns-in_err-make_entry_room-clause-sound : goal.returns-in_err-make_entry_room-clause-sound
returns-in_err-make_entry_room-clause-sound g c b base s is ready =
    err_on c.from_residual-in_err-make_entry_room.result c.in_err-make_entry_room.field-0.0 _ c.from_residual-in_err-make_entry_room.ensures.1 (flush_sound g.D.Disk c.in_err-make_entry_room.ensures.outcome)

pub returns-clause-outcome : goal.returns-clause-outcome
returns-clause-outcome g c =
    own_bytes g.D.Disk _ c.find_with_room.result c.find_with_room.ensures.refused
    (behind g.D.Disk (AreLoadedTo c.args.number) (loaded_to_still c.args.number) c.in_ok-get.ensures.outcome (flush_asks g.D.Disk c.in_ok-make_entry_room.ensures.outcome))

pub returns-clause-sound : goal.returns-clause-sound
returns-clause-sound g c b base s is ready =
    let got = c.in_ok-get.ensures.outcome.ends.goes b base s is ready in
    let mid = c.get.new.self in
    let room = c.in_ok-make_entry_room.ensures.kept b base got.now (stands_on g.D.Disk b base s c.args.disk.now got.now mid c.get.new.disk got.on) in
    let p = c.args.number in
    let frame = c.in_ok-get.field-0 in
    let held : is_some (held_of mid.pool p) ≡ true = subst (λ (n : ℕ). is_some (held_of mid.pool n) ≡ true) c.in_ok-get.ensures.frame (at_held (held_of mid.pool frame.number) frame.place c.in_ok-get.ensures.at) in
    found_room c.find_with_room.result _ _ (held_of c.make_entry_room.new.self.pool p) c.find_with_room.ensures.refused room.room (c.in_ok-make_entry_room.ensures.held.held p ∙ held)
