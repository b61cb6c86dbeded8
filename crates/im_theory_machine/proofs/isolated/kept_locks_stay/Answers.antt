use Rattle.im_theory_machine.proofs.Pending.{kept_locks_stay}
use Rattle.im_theory_machine.proofs.isolated.kept_locks_stay.Goals as goal

pub returns : goal.returns
returns c = kept_locks_stay
