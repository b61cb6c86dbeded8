use Rattle.im_theory_steps.proofs.Steps.{drops_served}
use Rattle.im_theory_steps.proofs.step_laws.drops_are_served.Goals as goal

pub returns : goal.returns
returns c = drops_served
