use Rattle.im_theory_steps.proofs.Steps.{barred_served}
use Rattle.im_theory_steps.proofs.step_laws.barred_steps_are_served.Goals as goal

pub returns : goal.returns
returns c = barred_served
