use Rattle.im_theory_steps.proofs.Undone.{returns_go_on}
use Rattle.im_theory_steps.proofs.undone_laws.returns_go_on.Goals as goal

pub returns : goal.returns
returns c = returns_go_on
