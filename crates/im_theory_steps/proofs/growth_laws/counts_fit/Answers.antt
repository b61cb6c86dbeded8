use Rattle.im_theory_steps.proofs.Counts.{counts_fit}
use Rattle.im_theory_steps.proofs.growth_laws.counts_fit.Goals as goal

pub returns : goal.returns
returns c = counts_fit
