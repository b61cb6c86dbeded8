use Rattle.im_theory_steps.proofs.Logging.{deletes_served}
use Rattle.im_theory_steps.proofs.step_laws.deletes_are_served.Goals as goal

pub returns : goal.returns
returns g c = deletes_served g.T.PageTree.tree g.T.PageTree.laws
