use Rattle.im_theory_steps.proofs.Steps.{opened_serves}
use Rattle.im_theory_steps.proofs.step_laws.opened_stores_serve.Goals as goal

pub returns : goal.returns
returns c = opened_serves
