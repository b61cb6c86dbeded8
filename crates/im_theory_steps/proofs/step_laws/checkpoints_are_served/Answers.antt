use Rattle.im_theory_steps.proofs.Steps.{checkpoints_served}
use Rattle.im_theory_steps.proofs.step_laws.checkpoints_are_served.Goals as goal

pub returns : goal.returns
returns c = checkpoints_served
