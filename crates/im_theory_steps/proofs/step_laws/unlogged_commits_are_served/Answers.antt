use Rattle.im_theory_steps.proofs.Steps.{unlogged_commits_served}
use Rattle.im_theory_steps.proofs.step_laws.unlogged_commits_are_served.Goals as goal

pub returns : goal.returns
returns c = unlogged_commits_served
