use Rattle.std.proofs.Common.{◌≡◌, ◌<◌, ◌≤◌, ◌+◌, ℕ, length, true, arith, subst, ◌∙◌}
use Rattle.std.specs.Prelude.{is_some, slice_index_or}
use Rattle.im_page_pool.specs.Pool.{held_of}
use Rattle.im_page_writer.specs.Outcome.{no_page}
use Rattle.im_page_writer.specs.Rounds.{AreHeld}
use Rattle.im_page_writer.proofs.LoggedChanges.{err_on}
use Rattle.im_page_writer.proofs.Outcomes.{flush_asks, flush_sound, pages_still, refused, then}
use Rattle.im_page_writer.proofs.page_writer.PageWriter.hold_all.Goals as goal

pub returns-in_err-make_entries_room-clause-outcome : goal.returns-in_err-make_entries_room-clause-outcome
returns-in_err-make_entries_room-clause-outcome g c = refused g.D.Disk c.from_residual.result c.from_residual.ensures.1 (flush_asks g.D.Disk c.in_err-make_entries_room.ensures.outcome)

pub returns-in_err-make_entries_room-clause-kept : goal.returns-in_err-make_entries_room-clause-kept
returns-in_err-make_entries_room-clause-kept g c pages has = err_on c.from_residual.result c.in_err-make_entries_room.field-0.0 _ c.from_residual.ensures.1 (flush_sound g.D.Disk c.in_err-make_entries_room.ensures.outcome)

pub returns-in_err-get_all-clause-outcome : goal.returns-in_err-get_all-clause-outcome
returns-in_err-get_all-clause-outcome g c =
    refused g.D.Disk c.from_residual-in_err-get_all.result c.from_residual-in_err-get_all.ensures.1
    (then g.D.Disk {m = no_page} (flush_asks g.D.Disk c.in_ok-make_entries_room.ensures.outcome) c.in_err-get_all.ensures.outcome)

pub returns-in_err-get_all-clause-kept : goal.returns-in_err-get_all-clause-kept
returns-in_err-get_all-clause-kept g c pages has =
    err_on c.from_residual-in_err-get_all.result c.in_err-get_all.field-0.0 _ c.from_residual-in_err-get_all.ensures.1
    (c.in_err-get_all.ensures.kept pages (pages_still g.D.Disk {m = no_page} has (flush_asks g.D.Disk c.in_ok-make_entries_room.ensures.outcome)))

pub returns-in_err-make_entry_room-clause-outcome : goal.returns-in_err-make_entry_room-clause-outcome
returns-in_err-make_entry_room-clause-outcome g c =
    refused g.D.Disk c.from_residual-in_err-make_entry_room.result c.from_residual-in_err-make_entry_room.ensures.1
    (then g.D.Disk {m = no_page} (then g.D.Disk {m = no_page} (flush_asks g.D.Disk c.in_ok-make_entries_room.ensures.outcome) c.in_ok-get_all.ensures.outcome) (flush_asks g.D.Disk c.in_err-make_entry_room.ensures.outcome))

pub returns-in_err-make_entry_room-clause-kept : goal.returns-in_err-make_entry_room-clause-kept
returns-in_err-make_entry_room-clause-kept g c pages has =
    err_on c.from_residual-in_err-make_entry_room.result c.in_err-make_entry_room.field-0.0 _ c.from_residual-in_err-make_entry_room.ensures.1 (flush_sound g.D.Disk c.in_err-make_entry_room.ensures.outcome)

pub returns-clause-outcome : goal.returns-clause-outcome
returns-clause-outcome g c =
    then g.D.Disk {m = no_page} (then g.D.Disk {m = no_page} (flush_asks g.D.Disk c.in_ok-make_entries_room.ensures.outcome) c.in_ok-get_all.ensures.outcome) (flush_asks g.D.Disk c.in_ok-make_entry_room.ensures.outcome)

pub returns-clause-one : goal.returns-clause-one
returns-clause-one g c pages has single =
    let d = g.D.Disk in
    let numbers = c.args.numbers.now in
    let two = pages_still d {m = no_page} (pages_still d {m = no_page} has (flush_asks d c.in_ok-make_entries_room.ensures.outcome)) c.in_ok-get_all.ensures.outcome in
    let room = c.in_ok-make_entry_room.ensures.kept two.b two.base two.now two.stands in
    let mid = c.get_all.new.self in
    let new = c.make_entry_room.new.self in
    let first : is_some (held_of mid.pool (slice_index_or numbers 0 0)) ≡ true = c.in_ok-get_all.ensures.last 0 (omega (arith, single)) in
    let here : is_some (held_of new.pool (slice_index_or numbers 0 0)) ≡ true = c.in_ok-make_entry_room.ensures.held.held (slice_index_or numbers 0 0) ∙ first in
    let held : AreHeld numbers new.pool = λ i lt. subst (λ (k : ℕ). is_some (held_of new.pool (slice_index_or numbers k 0)) ≡ true) (let e : 0 ≡ i = omega (arith, lt, single) in e) here in
    let few : length new.table.entries + length numbers ≤ new.table.most = (let one : length new.table.entries < new.table.most = room.room in omega (arith, one, single)) in
    c.holds_all.ensures.all held few
