use Rattle.im_theory_steps.proofs.Changing.{inserts_begin as law}
use Rattle.im_theory_steps.proofs.step_laws.inserts_begin.Goals as goal

pub returns : goal.returns
returns c = law
