use Rattle.im_theory_steps.proofs.Holding.{begun_waits, begun_dies}
use Rattle.im_theory_steps.proofs.step_laws.begun_ask_the_same.Goals as goal

pub returns : goal.returns
returns c = record { waits = begun_waits; dies = begun_dies }
