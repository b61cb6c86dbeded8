use Rattle.im_theory_machine.proofs.Returns.{returns_stand}
use Rattle.im_theory_machine.proofs.returned.returns_stand.Goals as goal

pub returns : goal.returns
returns c = returns_stand
