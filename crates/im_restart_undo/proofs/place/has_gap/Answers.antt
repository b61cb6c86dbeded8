use Rattle.std.proofs.Common.{refl}
use Rattle.im_restart_undo.proofs.PlaceLaws.{gap_tells, no_gap_tells}
use Rattle.im_restart_undo.proofs.place.has_gap.Goals as goal

pub returns-then-i-gt0 : goal.returns-then-i-gt0
returns-then-i-gt0 c = gap_tells c.args.page.now.body c.args.key.now c.in-Err.i c.len.result c.len.ensures c.if-i-gt0.true c.in-Err.ensures c.if-key-gt-LONGEST_KEY.false (c.if-not-has_room.ensures.0 refl)

pub returns-else-i-gt0 : goal.returns-else-i-gt0
returns-else-i-gt0 c = no_gap_tells c.args.page.now.body c.args.key.now c.in-Err.i c.if-i-gt0.false c.in-Err.ensures
