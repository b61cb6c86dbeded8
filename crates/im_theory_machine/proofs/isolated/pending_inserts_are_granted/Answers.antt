use Rattle.im_theory_machine.proofs.Isolates.{pending_granted}
use Rattle.im_theory_machine.proofs.isolated.pending_inserts_are_granted.Goals as goal

pub returns : goal.returns
returns c = pending_granted
