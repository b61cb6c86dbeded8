use Rattle.im_theory_steps.proofs.Durable.{quiet_lives_settle}
use Rattle.im_theory_steps.proofs.durable_laws.quiet_lives_settle.Goals as goal

pub returns : goal.returns
returns c = quiet_lives_settle
