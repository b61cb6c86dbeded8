use Rattle.im_theory_steps.proofs.Logging.{inserts_served}
use Rattle.im_theory_steps.proofs.step_laws.inserts_are_served.Goals as goal

pub returns : goal.returns
returns g c = inserts_served g.T.PageTree.tree g.T.PageTree.laws
