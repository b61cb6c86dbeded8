use Rattle.im_smo_pages.proofs.PlanWays.{plans_keep_ways}
use Rattle.im_smo_pages.proofs.tree_steps.plans_keep_ways.Goals as goal

pub returns : goal.returns
returns c = plans_keep_ways
