use Rattle.im_theory_machine.proofs.Isolates.{isolates}
use Rattle.im_theory_machine.proofs.isolated.law_isolation.Goals as goal

pub returns : goal.returns
returns c = isolates
