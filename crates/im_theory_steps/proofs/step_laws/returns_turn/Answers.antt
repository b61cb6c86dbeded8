use Rattle.im_theory_steps.proofs.Steps.{returns_turn}
use Rattle.im_theory_steps.proofs.step_laws.returns_turn.Goals as goal

pub returns : goal.returns
returns c = returns_turn
