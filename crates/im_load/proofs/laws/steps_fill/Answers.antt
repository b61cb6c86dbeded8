use Rattle.im_load.proofs.Fills.{steps_filled}
use Rattle.im_load.proofs.laws.steps_fill.Goals as goal

pub returns : goal.returns
returns c = steps_filled
