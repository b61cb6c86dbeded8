use Rattle.im_theory_steps.proofs.Durable.{cut_commits_stand}
use Rattle.im_theory_steps.proofs.durable_laws.cut_commits_stand.Goals as goal

pub returns : goal.returns
returns c = cut_commits_stand
