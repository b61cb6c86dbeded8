use Rattle.im_theory_steps.proofs.Steps.{lacks_served}
use Rattle.im_theory_steps.proofs.step_laws.lacks_are_served.Goals as goal

pub returns : goal.returns
returns c = lacks_served
