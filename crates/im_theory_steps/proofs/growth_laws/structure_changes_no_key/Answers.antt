use Rattle.im_theory_steps.proofs.Growth.{structure_changes_no_key}
use Rattle.im_theory_steps.proofs.growth_laws.structure_changes_no_key.Goals as goal

pub returns : goal.returns
returns c = structure_changes_no_key
