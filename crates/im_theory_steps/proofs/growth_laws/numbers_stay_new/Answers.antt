use Rattle.im_theory_steps.proofs.Growth.{numbers_stay_new}
use Rattle.im_theory_steps.proofs.growth_laws.numbers_stay_new.Goals as goal

pub returns : goal.returns
returns c = numbers_stay_new
