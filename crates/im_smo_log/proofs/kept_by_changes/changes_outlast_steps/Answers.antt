use Rattle.im_smo_log.proofs.BetweenSteps.{others_go_on, pages_keep_settled, inserts_may_end}
use Rattle.im_smo_log.proofs.kept_by_changes.changes_outlast_steps.Goals as goal

pub returns-clause-others : goal.returns-clause-others
returns-clause-others c = others_go_on

pub returns-clause-pages : goal.returns-clause-pages
returns-clause-pages c = pages_keep_settled

pub returns-clause-ends : goal.returns-clause-ends
returns-clause-ends c = inserts_may_end
