use Rattle.im_theory_log.proofs.LogLaws.{fronts_are_lawful}
use Rattle.im_theory_log.proofs.logs.fronts_are_lawful.Goals as goal

pub returns : goal.returns
returns g c = fronts_are_lawful g.T.PageTree.tree
