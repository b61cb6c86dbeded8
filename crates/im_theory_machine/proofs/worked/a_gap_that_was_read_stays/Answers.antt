use Rattle.im_theory_machine.proofs.WorkedRuns.{gap_stays}
use Rattle.im_theory_machine.proofs.worked.a_gap_that_was_read_stays.Goals as goal

pub returns : goal.returns
returns c = gap_stays
