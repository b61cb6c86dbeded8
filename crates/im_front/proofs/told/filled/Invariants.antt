use Rattle.std.proofs.Common.{◌≡◌, ◌≤◌, length, take}
use Rattle.std.specs.Vec.{vec_len, vec_capacity}
use Rattle.im_front.proofs.told.filled.Given as goal

abbrev pub invariant-loop-entry : goal.invariant-loop-entry
invariant-loop-entry l = record {
  items : l.room.items ≡ take l.entry-index l.list;
  len : vec_len l.room ≡ l.entry-index;
  room : length l.list ≤ vec_capacity l.room;
}
