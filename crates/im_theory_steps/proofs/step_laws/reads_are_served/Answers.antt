use Rattle.im_theory_steps.proofs.Steps.{reads_served}
use Rattle.im_theory_steps.proofs.step_laws.reads_are_served.Goals as goal

pub returns : goal.returns
returns c = reads_served
