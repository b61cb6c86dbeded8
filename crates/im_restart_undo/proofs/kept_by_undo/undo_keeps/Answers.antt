use Rattle.im_restart_undo.proofs.Keeping.{undo_committed, undo_others}
use Rattle.im_restart_undo.proofs.kept_by_undo.undo_keeps.Goals as goal

pub returns-clause-committed : goal.returns-clause-committed
returns-clause-committed c = undo_committed

pub returns-clause-others : goal.returns-clause-others
returns-clause-others c = undo_others
