use Rattle.im_load.proofs.Ends.{last_enough}
use Rattle.im_load.proofs.laws.last_is_enough.Goals as goal

pub returns : goal.returns
returns c = last_enough
