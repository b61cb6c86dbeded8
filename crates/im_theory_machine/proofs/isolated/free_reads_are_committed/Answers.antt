use Rattle.im_theory_machine.proofs.Isolates.{free_reads}
use Rattle.im_theory_machine.proofs.isolated.free_reads_are_committed.Goals as goal

pub returns : goal.returns
returns c = free_reads
