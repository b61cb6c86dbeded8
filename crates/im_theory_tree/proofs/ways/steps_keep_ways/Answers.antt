use Rattle.im_theory_tree.proofs.KeyWays.{splits_keep_ways, deletions_keep_ways}
use Rattle.im_theory_tree.proofs.ways.steps_keep_ways.Goals as goal

pub returns-clause-splits : goal.returns-clause-splits
returns-clause-splits c = splits_keep_ways

pub returns-clause-deletions : goal.returns-clause-deletions
returns-clause-deletions c = deletions_keep_ways
