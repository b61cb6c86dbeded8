use Rattle.im_theory_steps.proofs.Changing.{deletes_begin as law}
use Rattle.im_theory_steps.proofs.step_laws.deletes_begin.Goals as goal

pub returns : goal.returns
returns g c = law g.T.PageTree.tree g.T.PageTree.laws
