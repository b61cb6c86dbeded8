use Rattle.im_theory_steps.proofs.Logging.{logged_checkpoints_served}
use Rattle.im_theory_steps.proofs.step_laws.logged_checkpoints_are_served.Goals as goal

pub returns : goal.returns
returns g c = logged_checkpoints_served g.T.PageTree.tree
