use Rattle.im_theory_steps.proofs.Durable.{commits_stand}
use Rattle.im_theory_steps.proofs.durable_laws.commits_stand.Goals as goal

pub returns : goal.returns
returns c = commits_stand
