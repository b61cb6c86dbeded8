use Rattle.std.proofs.Common.{arith}
use Rattle.im_smo_split.proofs.Rooms.{no_room_of, room_of}
use Rattle.im_smo_split.proofs.split_room.fits_in.Goals as goal

pub returns-then-bytes-room : goal.returns-then-bytes-room
returns-then-bytes-room c leaf page is = room_of leaf page c.args.room c.args.bytes is (omega (arith, c.if-bytes-room.true))

pub returns : goal.returns
returns c leaf page is = no_room_of leaf page c.args.room c.args.bytes is (omega (arith, c.if-bytes-room.false)) c.requires
