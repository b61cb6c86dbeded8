use Rattle.im_theory_steps.proofs.Steps.{returns_stay}
use Rattle.im_theory_steps.proofs.step_laws.returns_stay.Goals as goal

pub returns : goal.returns
returns c = returns_stay
