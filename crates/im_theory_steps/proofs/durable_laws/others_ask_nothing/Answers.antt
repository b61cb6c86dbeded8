use Rattle.im_theory_steps.proofs.Durable.{others_ask_nothing}
use Rattle.im_theory_steps.proofs.durable_laws.others_ask_nothing.Goals as goal

pub returns : goal.returns
returns c = others_ask_nothing
