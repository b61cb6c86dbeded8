use Rattle.im_load.proofs.Loads.{loads_are_stores}
use Rattle.im_load.proofs.standing.loads_stand.Goals as goal

pub returns : goal.returns
returns c = loads_are_stores
