use Rattle.im_theory_steps.proofs.Emptied.{empty_commits_served}
use Rattle.im_theory_steps.proofs.step_laws.empty_commits_are_served.Goals as goal

pub returns : goal.returns
returns g c = empty_commits_served g.T.PageTree.tree g.T.PageTree.laws
