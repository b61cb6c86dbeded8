use Rattle.im_smo_actions.proofs.Told.{deletions_stand, splits_stand}
use Rattle.im_smo_actions.proofs.told_laws.plans_stand.Goals as goal

pub returns-clause-splits : goal.returns-clause-splits
returns-clause-splits c = splits_stand

pub returns-clause-deletions : goal.returns-clause-deletions
returns-clause-deletions c = deletions_stand
