-- Changes in a store's log are taken back at most once.
use Rattle.std.specs.Prelude.{List, None}
use Rattle.im_base_types.specs.Changes.{Effect}
use Rattle.im_base_types.specs.Lives.{Shown, nothing_shown, shows}
use Rattle.im_theory_log.proofs.LogLaws.{at_most_once}
use Rattle.im_base_disk.specs.declared.disk.Disk.{Ghosts}
use Rattle.im_base_disk.specs.Disk.{Files}
use Rattle.im_engine.proofs.NamedRuns.{named_weakened}
use Rattle.im_theory_tree.specs.Theory.{page_tree}
use Rattle.im_engine.specs.Stands.{Allowed}
use Rattle.im_engine.specs.Kept.{disk_of}
use Rattle.im_engine.specs.Counted.{FilesAreCounted, AreCountedFiles, LivesAreCounted, StepsAreCounted, OpeningsAreCounted}

pub files_counted : FilesAreCounted
files_counted effects files is s there key = at_most_once page_tree is.b is.log s is.lawful there key

allowed_counted : (before : List Effect) (s : Shown) (c : Files) → Allowed before s c → AreCountedFiles c
allowed_counted before s c is = (is.0, record { stands = is.2; counted = files_counted is.0 c is.2 })

pub lives_counted : {D : Type 0} (d : Ghosts D) → LivesAreCounted d
lives_counted d before s v e life c left = allowed_counted before s c (life.stops c left)

pub steps_counted : {D : Type 0} (d : Ghosts D) → StepsAreCounted d
steps_counted d before s v step reply old new kept =
    named_weakened d old.disk new.disk (Allowed before (shows s step None)) AreCountedFiles kept.stops (λ told c is. allowed_counted before (shows s step None) c is)

pub openings_counted : {D : Type 0} (d : Ghosts D) → OpeningsAreCounted d
openings_counted d before old stands result kept =
    named_weakened d old (disk_of d result) (Allowed before nothing_shown) AreCountedFiles kept.stops (λ told c is. allowed_counted before nothing_shown c is)
