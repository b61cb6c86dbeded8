use Rattle.im_theory_log.proofs.LogLaws.{logs_stay_lawful}
use Rattle.im_theory_log.proofs.logs.logs_stay_lawful.Goals as goal

pub returns : goal.returns
returns g c = logs_stay_lawful g.T.PageTree.tree g.T.PageTree.laws
