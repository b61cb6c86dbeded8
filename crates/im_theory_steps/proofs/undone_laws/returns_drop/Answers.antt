use Rattle.im_theory_steps.proofs.Changing.{returns_drop}
use Rattle.im_theory_steps.proofs.undone_laws.returns_drop.Goals as goal

pub returns : goal.returns
returns c = returns_drop
