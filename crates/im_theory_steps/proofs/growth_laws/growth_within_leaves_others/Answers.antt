use Rattle.im_theory_steps.proofs.Growth.{within_leaves_others}
use Rattle.im_theory_steps.proofs.growth_laws.growth_within_leaves_others.Goals as goal

pub returns : goal.returns
returns c = within_leaves_others
