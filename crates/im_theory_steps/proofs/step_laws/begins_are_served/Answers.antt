use Rattle.im_theory_steps.proofs.Steps.{begins_served}
use Rattle.im_theory_steps.proofs.step_laws.begins_are_served.Goals as goal

pub returns : goal.returns
returns c = begins_served
