use Rattle.im_theory_steps.proofs.Steps.{undo_served}
use Rattle.im_theory_steps.proofs.step_laws.undo_is_served.Goals as goal

pub returns : goal.returns
returns c = undo_served
