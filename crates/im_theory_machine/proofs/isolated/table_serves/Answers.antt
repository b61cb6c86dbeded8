use Rattle.im_theory_machine.proofs.Serving.{table-serves}
use Rattle.im_theory_machine.proofs.isolated.table_serves.Goals as goal

pub returns : goal.returns
returns c = table-serves
