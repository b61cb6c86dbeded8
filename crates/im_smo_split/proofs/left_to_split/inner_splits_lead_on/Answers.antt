use Rattle.im_smo_split.proofs.PendingChains.{inner_low, inner_high}
use Rattle.im_smo_split.proofs.left_to_split.inner_splits_lead_on.Goals as goal

pub returns-clause-low : goal.returns-clause-low
returns-clause-low c dense = inner_low {dense = dense}

pub returns-clause-high : goal.returns-clause-high
returns-clause-high c dense = inner_high {dense = dense}
