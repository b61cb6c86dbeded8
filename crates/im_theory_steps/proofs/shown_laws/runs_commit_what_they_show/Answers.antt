use Rattle.im_theory_steps.proofs.Acknowledged.{runs_commit}
use Rattle.im_theory_steps.proofs.shown_laws.runs_commit_what_they_show.Goals as goal

pub returns : goal.returns
returns c = runs_commit
