use Rattle.im_theory_steps.proofs.Logging.{logged_commits_wait}
use Rattle.im_theory_steps.proofs.step_laws.logged_commits_wait.Goals as goal

pub returns : goal.returns
returns g c = logged_commits_wait g.T.PageTree.tree g.T.PageTree.laws
