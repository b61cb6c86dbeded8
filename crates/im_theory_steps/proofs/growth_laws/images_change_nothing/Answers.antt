use Rattle.im_theory_steps.proofs.Growth.{images_change_nothing}
use Rattle.im_theory_steps.proofs.growth_laws.images_change_nothing.Goals as goal

pub returns : goal.returns
returns c = images_change_nothing
