use Rattle.im_restart.proofs.Bounds.{above_rest}
use Rattle.im_restart.proofs.undo.take_last.Goals as goal

pub returns-clause-others : goal.returns-clause-others
returns-clause-others c = above_rest c.pop_last.result c.pop_last.new.self.entries c.pop_last.ensures.all_below
