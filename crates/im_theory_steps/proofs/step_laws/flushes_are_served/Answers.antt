use Rattle.im_theory_steps.proofs.Steps.{flushes_served}
use Rattle.im_theory_steps.proofs.step_laws.flushes_are_served.Goals as goal

pub returns : goal.returns
returns c = flushes_served
