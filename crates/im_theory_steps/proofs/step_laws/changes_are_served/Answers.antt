use Rattle.im_theory_steps.proofs.Steps.{changes_served}
use Rattle.im_theory_steps.proofs.step_laws.changes_are_served.Goals as goal

pub returns : goal.returns
returns c = changes_served
