use Rattle.im_theory_steps.proofs.Steps.{new_serves}
use Rattle.im_theory_steps.proofs.step_laws.new_stores_serve.Goals as goal

pub returns : goal.returns
returns c = new_serves
