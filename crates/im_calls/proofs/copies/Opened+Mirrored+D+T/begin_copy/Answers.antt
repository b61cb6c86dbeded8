use Rattle.im_calls.proofs.copies.Opened+Mirrored+D+T.begin_copy.Goals as goal

pub returns-clause-begun : goal.returns-clause-begun
returns-clause-begun g c = record { begun = c.begin_copy.ensures.begun; upkeep = c.begin_copy.ensures.upkeep; tells = c.tell.ensures.told }
