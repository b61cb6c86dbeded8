use Rattle.im_theory_steps.proofs.Undone.{returns_end}
use Rattle.im_theory_steps.proofs.undone_laws.returns_end.Goals as goal

pub returns : goal.returns
returns c = returns_end
