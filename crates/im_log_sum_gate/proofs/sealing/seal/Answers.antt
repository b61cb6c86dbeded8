use Rattle.std.proofs.Common.{◌+◌, arith, drop, take}
use Rattle.im_log_sum_gate.proofs.Rooms.{batch_is, may_seal, records_long, sealed_front}
use Rattle.im_log_sum_gate.proofs.sealing.seal.Goals as goal

pub returns-clause-sealed : goal.returns-clause-sealed
returns-clause-sealed c =
    let room = c.args.room.now in
    let at = c.args.at in
    let end = c.args.end in
    let long = records_long room at end c.requires.some c.requires.most c.requires.room in
    sealed_front room at end c.requires.some c.requires.most c.requires.room c.put_head.new.room c.put_head.ensures c.args.salt.now c.args.lsn c.sum_of-sum.result
    (c.sum_of-sum.ensures (drop (at + 5) (take end room)) (omega (arith, long, c.requires.most)) (batch_is room at end c.requires.some c.requires.most c.requires.room c.put_head.new.room c.put_head.ensures))
    c.put_end.new.room c.put_end.ensures

pub returns-clause-may : goal.returns-clause-may
returns-clause-may c =
    let room = c.args.room.now in
    let at = c.args.at in
    let end = c.args.end in
    let long = records_long room at end c.requires.some c.requires.most c.requires.room in
    may_seal room at end c.requires.some c.requires.most c.requires.room c.put_head.new.room c.put_head.ensures c.args.salt.now c.args.lsn c.sum_of-sum.result
    (c.sum_of-sum.ensures (drop (at + 5) (take end room)) (omega (arith, long, c.requires.most)) (batch_is room at end c.requires.some c.requires.most c.requires.room c.put_head.new.room c.put_head.ensures))
    c.put_end.new.room c.put_end.ensures (omega (arith, c.ranges))
