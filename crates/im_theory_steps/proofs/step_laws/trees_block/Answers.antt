use Rattle.im_theory_steps.proofs.Changing.{trees_block as law}
use Rattle.im_theory_steps.proofs.step_laws.trees_block.Goals as goal

pub returns : goal.returns
returns c = law
