use Rattle.im_theory_steps.proofs.Changing.{pages_served as law}
use Rattle.im_theory_steps.proofs.step_laws.pages_are_served.Goals as goal

pub returns : goal.returns
returns c = law
