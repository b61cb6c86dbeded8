use Rattle.im_theory_steps.proofs.Owner.{owners_marked}
use Rattle.im_theory_steps.proofs.step_laws.owners_are_marked.Goals as goal

pub returns : goal.returns
returns c = owners_marked
