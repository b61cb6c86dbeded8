use Rattle.im_theory_machine.proofs.WorkedReturns.{gap_opens}
use Rattle.im_theory_machine.proofs.worked.a_gap_opens_at_a_return.Goals as goal

pub returns : goal.returns
returns c = gap_opens
