use Rattle.im_engine_belonging.proofs.Changes.{current_is_read, left_is_read}
use Rattle.im_engine_belonging.proofs.walks_say.Goals as goal

pub returns-clause-left : goal.returns-clause-left
returns-clause-left c = left_is_read

pub returns-clause-current : goal.returns-clause-current
returns-clause-current c = current_is_read
