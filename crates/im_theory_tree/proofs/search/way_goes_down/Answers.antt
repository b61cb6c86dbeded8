use Rattle.im_theory_tree.proofs.Way.{way_begins, step_way}
use Rattle.im_theory_tree.proofs.search.way_goes_down.Goals as goal

pub returns-clause-begins : goal.returns-clause-begins
returns-clause-begins c = way_begins

pub returns-clause-steps : goal.returns-clause-steps
returns-clause-steps c = step_way
