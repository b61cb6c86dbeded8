use Rattle.im_theory_steps.proofs.Steps.{ends_served}
use Rattle.im_theory_steps.proofs.step_laws.ends_are_served.Goals as goal

pub returns : goal.returns
returns c = ends_served
