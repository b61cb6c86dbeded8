use Rattle.im_smo_split.proofs.PendingChains.{pending_stays, root_pending_stays}
use Rattle.im_smo_split.proofs.left_to_split.pending_splits_stay.Goals as goal

pub returns-clause-page : goal.returns-clause-page
returns-clause-page c dense = pending_stays {dense = dense}

pub returns-clause-root : goal.returns-clause-root
returns-clause-root c dense = root_pending_stays {dense = dense}
