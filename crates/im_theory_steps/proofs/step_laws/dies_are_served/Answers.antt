use Rattle.im_theory_steps.proofs.Steps.{dies_served}
use Rattle.im_theory_steps.proofs.step_laws.dies_are_served.Goals as goal

pub returns : goal.returns
returns c = dies_served
