use Rattle.im_engine.proofs.Counted.{files_counted, lives_counted, steps_counted, openings_counted}
use Rattle.im_engine.proofs.promise.changes_are_taken_back_once.Goals as goal

pub returns-clause-files : goal.returns-clause-files
returns-clause-files g c = files_counted

pub returns-clause-lives : goal.returns-clause-lives
returns-clause-lives g c = lives_counted g.D.Disk

pub returns-clause-steps : goal.returns-clause-steps
returns-clause-steps g c = steps_counted g.D.Disk

pub returns-clause-openings : goal.returns-clause-openings
returns-clause-openings g c = openings_counted g.D.Disk
