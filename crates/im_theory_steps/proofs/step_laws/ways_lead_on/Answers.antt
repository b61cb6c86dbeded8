use Rattle.im_theory_steps.proofs.Keeping.{ways_lead_on}
use Rattle.im_theory_steps.proofs.step_laws.ways_lead_on.Goals as goal

pub returns : goal.returns
returns c = ways_lead_on
