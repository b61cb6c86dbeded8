use Rattle.std.proofs.Common.{rules}
use Rattle.im_restart_redo.proofs.Recoveries.{unmoved}
use Rattle.im_restart_redo.proofs.window.Window.bring.Goals as goal

pub returns-in-Some-clause-outcome : goal.returns-in-Some-clause-outcome
returns-in-Some-clause-outcome g c = unmoved g.D.Disk c.args.writer.now c.args.disk.now c.requires.working c.requires.ready

pub returns-in-Some-clause-shows : goal.returns-in-Some-clause-shows
returns-in-Some-clause-shows g c b base s log st also shows = shows

pub returns-in-Some-clause-found : goal.returns-in-Some-clause-found
returns-in-Some-clause-found g c b base s log r st also shows has same = record { ok = c.in-Some.ensures.found log r shows has same; cause = search rules }

pub returns-clause-shows : goal.returns-clause-shows
returns-clause-shows g c b base s log st also shows = c.read_anew.ensures.shows b base s log st also

pub returns-clause-found : goal.returns-clause-found
returns-clause-found g c b base s log r st also shows has same = c.read_anew.ensures.found b base s log r st also has same
