use Rattle.im_calls.proofs.copies.Opened+Mirrored+D+T.end_copy.Goals as goal

pub returns-clause-ended : goal.returns-clause-ended
returns-clause-ended g c = record { result = c.end_copy-ended.result; made = c.end_copy-ended.ensures.ended; upkeep = c.end_copy-ended.ensures.upkeep; tells = c.tell_copy.ensures.told }
