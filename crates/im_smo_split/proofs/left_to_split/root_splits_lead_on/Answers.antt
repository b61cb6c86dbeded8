use Rattle.im_smo_split.proofs.PendingChains.{root_low, root_high}
use Rattle.im_smo_split.proofs.left_to_split.root_splits_lead_on.Goals as goal

pub returns-clause-low : goal.returns-clause-low
returns-clause-low c dense = root_low {dense = dense}

pub returns-clause-high : goal.returns-clause-high
returns-clause-high c dense = root_high {dense = dense}
