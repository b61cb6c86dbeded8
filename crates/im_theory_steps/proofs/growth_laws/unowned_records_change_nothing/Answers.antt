use Rattle.im_theory_steps.proofs.Growth.{unowned_change_nothing}
use Rattle.im_theory_steps.proofs.growth_laws.unowned_records_change_nothing.Goals as goal

pub returns : goal.returns
returns c = unowned_change_nothing
