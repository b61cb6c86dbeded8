use Rattle.im_theory_steps.proofs.Undone.{undone_served}
use Rattle.im_theory_steps.proofs.undone_laws.undone_changes_are_served.Goals as goal

pub returns : goal.returns
returns c = undone_served
