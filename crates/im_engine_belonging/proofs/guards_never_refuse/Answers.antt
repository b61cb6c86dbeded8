use Rattle.im_engine_belonging.proofs.Sound.{sound}
use Rattle.im_engine_belonging.proofs.Walks.{never_older_pages}
use Rattle.im_engine_belonging.proofs.guards_never_refuse.Goals as goal

pub returns-clause-refused : goal.returns-clause-refused
returns-clause-refused c = sound

pub returns-clause-older : goal.returns-clause-older
returns-clause-older c = never_older_pages
