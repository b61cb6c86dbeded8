use Rattle.im_theory_steps.proofs.Changing.{inserts_end as law}
use Rattle.im_theory_steps.proofs.step_laws.inserts_end.Goals as goal

pub returns : goal.returns
returns g c = law g.T.PageTree.tree g.T.PageTree.laws
