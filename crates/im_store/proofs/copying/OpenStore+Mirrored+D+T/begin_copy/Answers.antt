use Rattle.im_store.proofs.copying.OpenStore+Mirrored+D+T.begin_copy.Goals as goal

pub returns-clause-begun : goal.returns-clause-begun
returns-clause-begun g c = let is = c.begin_copy.ensures in record { still = is.still; begun = is.begun }
