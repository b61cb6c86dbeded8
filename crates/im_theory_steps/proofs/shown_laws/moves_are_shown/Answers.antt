use Rattle.im_theory_steps.proofs.Showing.{moves_are_shown}
use Rattle.im_theory_steps.proofs.shown_laws.moves_are_shown.Goals as goal

pub returns : goal.returns
returns c = moves_are_shown
