use Rattle.std.proofs.Common.{ap, length}
use Rattle.im_open.proofs.Engines.{if_ok}
use Rattle.im_open.proofs.open_folder.opened.Goals as goal

-- no transaction is active; and real files tell nothing
pub returns-clause-rests : goal.returns-clause-rests
returns-clause-rests g c = if_ok c.kept_in.result c.kept_in.ensures.works (λ e works. record { idle = ap length works.1; rests = λ tells. absurd tells })
