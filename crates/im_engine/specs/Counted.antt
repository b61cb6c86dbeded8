-- How often each change in a store's log is taken back.
use Rattle.std.specs.Prelude.{◌≡◌, true, List, Result}
use Rattle.im_base_types.specs.declared.fault.Fault.{Fault}
use Rattle.im_base_types.specs.Answers.{Step, Reply}
use Rattle.im_base_types.specs.Changes.{Effect}
use Rattle.im_theory_log.specs.Histories.{History, IsRecordOf}
use Rattle.im_base_types.specs.Lives.{Shown}
use Rattle.im_base_types.specs.Records.{Logged}
use Rattle.im_theory_log.specs.Transactions.{is_key, IsCounted}
use Rattle.im_base_disk.specs.declared.disk.Disk.{Ghosts}
use Rattle.im_base_disk.specs.Disk.{Files}
use Rattle.im_base_two_logs.specs.Runs.{LeavesNamed}
use Rattle.im_theory_machine.specs.View.{View}
use Rattle.im_engine.specs.declared.engine.Engine.{Engine}
use Rattle.im_engine.specs.Stands.{StandsFor}
use Rattle.im_engine.specs.Running.{IsLife}
use Rattle.im_engine.specs.Kept.{OpenKept, StepKept, disk_of}

-- Each insert and each delete of a log is compensated at most once: where its transaction has a Commit, not at all if it is part of what that committed, and once if it is not; once
-- where it has an End.
abbrev pub AreCompensated : History → Type 0
AreCompensated log = (s : Logged) → IsRecordOf s log → is_key s.what ≡ true → IsCounted log s

-- The log of files that stand for some effects is such a log.
abbrev pub FilesAreCounted : Type 0
FilesAreCounted = (effects : List Effect) (files : Files) (is : StandsFor effects files) → AreCompensated is.log

-- The files stand for these effects, and their log is such a log.
pub record StandsCounted (effects : List Effect) (files : Files) : Type 0 where
  pub stands : StandsFor effects files
  pub counted : AreCompensated stands.log

-- for some effects
abbrev pub AreCountedFiles : Files → Type 0
AreCountedFiles files = (effects : List Effect) × StandsCounted effects files

module _ {D : Type 0} (d : Ghosts D) where
  -- what a stop between two steps of a life leaves
  abbrev pub LivesAreCounted : Type 0
  LivesAreCounted = (before : List Effect) (s : Shown) (v : View) (e : Engine D d) → IsLife d before s v e → (c : Files) → d.may_leave e.disk c → AreCountedFiles c

  -- what one within a step leaves, also where a transaction is half rolled back
  abbrev pub StepsAreCounted : Type 0
  StepsAreCounted = (before : List Effect) (s : Shown) (v : View) (step : Step) (reply : Reply) (old new : Engine D d) → StepKept d before s v step reply old new → LeavesNamed d old.disk new.disk AreCountedFiles

  -- and what one within an opening leaves
  abbrev pub OpeningsAreCounted : Type 0
  OpeningsAreCounted = (before : List Effect) (old : D) (stands : StandsFor before (d.seen old)) (result : Result (Engine D d) (Fault × D)) → OpenKept d before old stands result → LeavesNamed d old (disk_of d result) AreCountedFiles
