use Rattle.im_theory_steps.proofs.Steps.{forces_served}
use Rattle.im_theory_steps.proofs.step_laws.forces_are_served.Goals as goal

pub returns : goal.returns
returns c = forces_served
