use Rattle.im_smo_actions.proofs.Told.{changes_are_told, none_is_told, plans_have_trees}
use Rattle.im_smo_actions.proofs.told_laws.told_beside.Goals as goal

pub returns-clause-none : goal.returns-clause-none
returns-clause-none g c = none_is_told

pub returns-clause-told : goal.returns-clause-told
returns-clause-told g c = changes_are_told

pub returns-clause-tree : goal.returns-clause-tree
returns-clause-tree g c = plans_have_trees g.D.Disk
