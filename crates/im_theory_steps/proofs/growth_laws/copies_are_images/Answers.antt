use Rattle.im_theory_steps.proofs.Growth.{copies_are_images}
use Rattle.im_theory_steps.proofs.growth_laws.copies_are_images.Goals as goal

pub returns : goal.returns
returns g c = copies_are_images g.T.PageTree.tree
