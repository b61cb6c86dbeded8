use Rattle.im_theory_steps.proofs.Changing.{inserts_free as law}
use Rattle.im_theory_steps.proofs.step_laws.inserts_stay_free.Goals as goal

pub returns : goal.returns
returns c = law
