use Rattle.im_load.proofs.Closings.{steps_kept}
use Rattle.im_load.proofs.laws.steps_keep.Goals as goal

pub returns : goal.returns
returns c = steps_kept
