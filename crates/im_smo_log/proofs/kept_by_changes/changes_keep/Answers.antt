use Rattle.im_smo_log.proofs.Closing.{change_committed, change_contents, change_others}
use Rattle.im_smo_log.proofs.Nets.{change_nets}
use Rattle.im_smo_log.proofs.kept_by_changes.changes_keep.Goals as goal

pub returns-clause-committed : goal.returns-clause-committed
returns-clause-committed c = change_committed

pub returns-clause-map : goal.returns-clause-map
returns-clause-map c = change_contents

pub returns-clause-others : goal.returns-clause-others
returns-clause-others c = change_others

pub returns-clause-nets : goal.returns-clause-nets
returns-clause-nets c = change_nets
