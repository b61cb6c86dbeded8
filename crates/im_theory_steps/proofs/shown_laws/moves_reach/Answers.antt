use Rattle.im_theory_steps.proofs.Promises.{moves_reach}
use Rattle.im_theory_steps.proofs.shown_laws.moves_reach.Goals as goal

pub returns : goal.returns
returns c = moves_reach
