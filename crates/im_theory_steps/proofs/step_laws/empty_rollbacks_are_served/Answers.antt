use Rattle.im_theory_steps.proofs.Emptied.{empty_rollbacks_served}
use Rattle.im_theory_steps.proofs.step_laws.empty_rollbacks_are_served.Goals as goal

pub returns : goal.returns
returns g c = empty_rollbacks_served g.T.PageTree.tree g.T.PageTree.laws
