use Rattle.std.proofs.Common.{rules, ap}
use Rattle.im_open.proofs.InFolders.{no_room, none_begun, none_ended, one_ended, one_refused}
use Rattle.im_open.proofs.copies.copy.Goals as goal

pub returns-in-Err-clause-refused : goal.returns-in-Err-clause-refused
returns-in-Err-clause-refused g c = none_begun _ _ _ _ _ _ _ _ c.in-Err.error (ap (λ s. s.engine) c.in-Err.ensures.none) c.in-Err.ensures.refused

pub returns-in_default-room_in-clause-refused : goal.returns-in_default-room_in-clause-refused
returns-in_default-room_in-clause-refused g c = no_room _ _ _ _ _ _ _ _ c.in_default.ensures.begun

pub returns-in-Err-copy_pieces-clause-refused : goal.returns-in-Err-copy_pieces-clause-refused
returns-in-Err-copy_pieces-clause-refused g c = one_refused _ _ _ _ _ _ _ _ _ _ c.in-Err-copy_pieces.fault c.in_default.ensures.begun c.in-Err-copy_pieces.ensures.refused (search rules)

pub returns-clause-copied : goal.returns-clause-copied
returns-clause-copied g c = one_ended _ _ _ _ _ _ _ _ _ _ c.end_copy.result c.in_default.ensures.begun c.in_default-copy_pieces.ensures.copied (search rules) c.end_copy.ensures.ended

pub returns-clause-refused : goal.returns-clause-refused
returns-clause-refused g c = none_ended _ _ _ _ _ _ _ _ _ _ _ c.end_copy.result c.in_default.ensures.begun c.in_default-copy_pieces.ensures.copied (search rules) c.end_copy.ensures.refused
