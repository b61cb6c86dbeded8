use Rattle.std.proofs.Common.{arith, refl}
use Rattle.im_theory_page.proofs.EntryLemmas.{room_exact}
use Rattle.im_page.proofs.page.Page.has_room.Goals as goal

pub returns-then-room-cell_len : goal.returns-then-room-cell_len
returns-then-room-cell_len c =
    let exact = room_exact c.self.inside.bytes c.room.result c.args.key c.self.invariant.packed c.room.ensures in
    rw (← c.self.view_is) (λ is. cc, λ fits. absurd (omega (arith, exact.0 fits, c.cell_len.ensures)))

pub returns : goal.returns
returns c =
    let exact = room_exact c.self.inside.bytes c.room.result c.args.key c.self.invariant.packed c.room.ensures in
    rw (← c.self.view_is) (λ is. exact.1 (omega (arith, c.cell_len.ensures)), λ fits. refl)
