use Rattle.std.proofs.Common.{arith, refl}
use Rattle.im_theory_page.specs.Page.{is_leaf}
use Rattle.im_theory_page.proofs.EntryLemmas.{slots_of_place, full_is}
use Rattle.im_page.proofs.page.Page.insert.Goals as goal

pub insert_cell-requires-clause-place : goal.insert_cell-requires-clause-place
insert_cell-requires-clause-place c =
    slots_of_place (is_leaf c.self.inside.bytes) c.self.inside.bytes c.args.key.now c.args.i (rw (← c.self.view_is) at c.requires.place)

pub returns-then-room-cell_len-clause-full : goal.returns-then-room-cell_len-clause-full
returns-then-room-cell_len-clause-full c =
    let exact = full_is c.self.inside.bytes c.room.result ((c.args.key.now, c.args.value)) c.self.invariant.packed c.room.ensures in
    rw (← c.self.view_is) (λ is. cc, λ fits. absurd (omega (arith, exact.0 fits, c.cell_len.ensures)))

pub returns-clause-full : goal.returns-clause-full
returns-clause-full c =
    let exact = full_is c.self.inside.bytes c.room.result ((c.args.key.now, c.args.value)) c.self.invariant.packed c.room.ensures in
    rw (← c.self.view_is) (λ is. exact.1 (omega (arith, c.cell_len.ensures)), λ fits. refl)
