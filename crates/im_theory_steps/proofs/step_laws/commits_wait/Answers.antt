use Rattle.im_theory_steps.proofs.Steps.{commits_wait}
use Rattle.im_theory_steps.proofs.step_laws.commits_wait.Goals as goal

pub returns : goal.returns
returns c = commits_wait
