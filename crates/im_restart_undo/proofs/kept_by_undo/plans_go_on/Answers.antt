use Rattle.im_restart_undo.proofs.Told.{barred_plans_are_hidden, plans_may_be_logged}
use Rattle.im_restart_undo.proofs.kept_by_undo.plans_go_on.Goals as goal

pub returns-clause-logged : goal.returns-clause-logged
returns-clause-logged c = plans_may_be_logged

pub returns-clause-barred : goal.returns-clause-barred
returns-clause-barred c = barred_plans_are_hidden
