use Rattle.std.proofs.Common.{◌*◌, drop, arith}
use Rattle.im_names.proofs.PartLemmas.{length_piece}
use Rattle.im_names.proofs.part.put_part.Goals as goal

pub put-len-requires : goal.put-len-requires
put-len-requires c =
    let l = length_piece (c.args.number * c.part_room-room.result) c.min.result (drop (c.args.number * c.part_room-room.result) c.args.value.now) in
    record { room = omega arith }
