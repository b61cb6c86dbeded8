use Rattle.im_engine_checkpoint.proofs.Points.{needs_nothing_before}
use Rattle.im_engine_checkpoint.proofs.redo_point.redo_needs_nothing_before_the_redo_point.Goals as goal

pub returns : goal.returns
returns c = needs_nothing_before
