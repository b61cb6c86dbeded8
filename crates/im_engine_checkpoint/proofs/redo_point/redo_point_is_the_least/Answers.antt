use Rattle.im_engine_checkpoint.proofs.Points.{is_the_least}
use Rattle.im_engine_checkpoint.proofs.redo_point.redo_point_is_the_least.Goals as goal

pub returns : goal.returns
returns c = is_the_least
