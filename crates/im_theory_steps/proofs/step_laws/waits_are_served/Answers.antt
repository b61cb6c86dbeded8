use Rattle.im_theory_steps.proofs.Steps.{waits_served}
use Rattle.im_theory_steps.proofs.step_laws.waits_are_served.Goals as goal

pub returns : goal.returns
returns c = waits_served
