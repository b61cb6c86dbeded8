use Rattle.im_theory_steps.proofs.Durable.{stops_allow}
use Rattle.im_theory_steps.proofs.durable_laws.stops_allow.Goals as goal

pub returns : goal.returns
returns g c = stops_allow g.T.PageTree.tree
