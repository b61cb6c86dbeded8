use Rattle.im_theory_steps.proofs.Steps.{turns_served}
use Rattle.im_theory_steps.proofs.step_laws.turns_are_served.Goals as goal

pub returns : goal.returns
returns c = turns_served
