use Rattle.im_theory_steps.proofs.Logging.{logged_commits_served}
use Rattle.im_theory_steps.proofs.step_laws.logged_commits_are_served.Goals as goal

pub returns : goal.returns
returns g c = logged_commits_served g.T.PageTree.tree g.T.PageTree.laws
