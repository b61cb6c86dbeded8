use Rattle.im_theory_machine.proofs.Changing.{changes-serve}
use Rattle.im_theory_machine.proofs.isolated.changes_serve.Goals as goal

pub returns : goal.returns
returns c = changes-serve
