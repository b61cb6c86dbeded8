use Rattle.im_theory_steps.proofs.Steps.{commits_served}
use Rattle.im_theory_steps.proofs.step_laws.commits_are_served.Goals as goal

pub returns : goal.returns
returns c = commits_served
