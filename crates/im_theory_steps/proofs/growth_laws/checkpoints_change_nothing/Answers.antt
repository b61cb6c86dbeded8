use Rattle.im_theory_steps.proofs.Growth.{checkpoints_change_nothing}
use Rattle.im_theory_steps.proofs.growth_laws.checkpoints_change_nothing.Goals as goal

pub returns : goal.returns
returns g c = checkpoints_change_nothing g.T.PageTree.tree
