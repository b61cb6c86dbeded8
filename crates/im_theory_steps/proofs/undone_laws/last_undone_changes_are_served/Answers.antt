use Rattle.im_theory_steps.proofs.Undone.{last_undone_served}
use Rattle.im_theory_steps.proofs.undone_laws.last_undone_changes_are_served.Goals as goal

pub returns : goal.returns
returns c = last_undone_served
