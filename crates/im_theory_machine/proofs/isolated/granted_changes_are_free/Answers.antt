use Rattle.im_theory_machine.proofs.Isolates.{granted_free}
use Rattle.im_theory_machine.proofs.isolated.granted_changes_are_free.Goals as goal

pub returns : goal.returns
returns c = granted_free
