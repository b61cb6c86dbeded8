use Rattle.im_theory_steps.proofs.Undone.{ends_leave_nothing}
use Rattle.im_theory_steps.proofs.undone_laws.ends_leave_nothing.Goals as goal

pub returns : goal.returns
returns c = ends_leave_nothing
