use Rattle.im_smo_drop_leaf.proofs.PlanWays.{deletion_plans_keep_ways}
use Rattle.im_smo_drop_leaf.proofs.kept_ways.deletion_plans_keep_ways.Goals as goal

pub returns : goal.returns
returns c = deletion_plans_keep_ways
