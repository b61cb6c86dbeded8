use Rattle.im_engine_belonging.proofs.Cuts.{keep}
use Rattle.im_engine_belonging.proofs.cuts_keep_stores.Goals as goal

pub returns : goal.returns
returns c = keep
