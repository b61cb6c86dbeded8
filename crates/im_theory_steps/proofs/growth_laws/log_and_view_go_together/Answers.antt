use Rattle.im_theory_steps.proofs.Together.{together}
use Rattle.im_theory_steps.proofs.growth_laws.log_and_view_go_together.Goals as goal

pub returns : goal.returns
returns c = together
