use Rattle.im_theory_machine.proofs.WorkedReturns.{return_is_told}
use Rattle.im_theory_machine.proofs.worked.a_return_is_told.Goals as goal

pub returns : goal.returns
returns c = return_is_told
