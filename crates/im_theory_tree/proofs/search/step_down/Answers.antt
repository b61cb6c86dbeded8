use Rattle.im_theory_tree.proofs.Way.{step_leftmost, step_child}
use Rattle.im_theory_tree.proofs.search.step_down.Goals as goal

pub returns-clause-leftmost : goal.returns-clause-leftmost
returns-clause-leftmost c = step_leftmost

pub returns-clause-child : goal.returns-clause-child
returns-clause-child c = step_child
