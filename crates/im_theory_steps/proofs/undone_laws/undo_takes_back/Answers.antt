use Rattle.im_theory_steps.proofs.Undone.{undo_takes_back}
use Rattle.im_theory_steps.proofs.undone_laws.undo_takes_back.Goals as goal

pub returns : goal.returns
returns c = undo_takes_back
