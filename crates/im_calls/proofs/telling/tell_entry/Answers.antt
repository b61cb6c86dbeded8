use Rattle.std.proofs.Common.{[]}
use Rattle.im_calls.proofs.Buffers.{put_none}
use Rattle.im_calls.proofs.telling.tell_entry.Goals as goal

pub returns-clause-shown : goal.returns-clause-shown
returns-clause-shown c = c.put_entry.ensures.put [] (put_none _)
