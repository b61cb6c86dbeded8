use Rattle.im_theory_steps.proofs.GoingOn.{switches_served}
use Rattle.im_theory_steps.proofs.switch_laws.switches_are_served.Goals as goal

pub returns : goal.returns
returns g c = switches_served g.T.PageTree.tree
