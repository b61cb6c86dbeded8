-- What the files of a store stand for.
use Rattle.std.specs.Prelude.{◌≡◌, ◌≤◌, ℕ, Bool, List, ◌++◌}
use Rattle.std.specs.FinMap.{empty}
use Rattle.im_base_types.specs.Changes.{Effect, seen, apply_all}
use Rattle.im_theory_log.specs.Histories.{Base, History}
use Rattle.im_theory_log.specs.Lawful.{IsLawful}
use Rattle.im_theory_log.specs.Transactions.{committed}
use Rattle.im_base_types.specs.Lives.{Shown, StandsForMore}
use Rattle.im_base_disk.specs.Disk.{Files}
use Rattle.im_base_two_logs.specs.Renamed.{named}
use Rattle.im_log_choice.specs.Current.{IsCurrent, HasCurrent}
use Rattle.im_restart_analysis.specs.Orderly.{IsCounted}
use Rattle.im_theory_tree.specs.Theory.{page_tree}
use Rattle.im_restart.specs.Restart.{HasStore, SpellsLog}

-- The files stand for these effects, in the order of their Commits: those that made the map that the current log begins with, and then those of that log, which
-- starts at some LSN, is lawful, and covers the pages; a first one is over no more pages than such a one begins with. Three files without a log and without pages have the log of no record, and stand for no effect.
pub record StandsFor (effects : List Effect) (files : Files) : Type 0 where
  -- the names by which the current log is `Log`
  pub swapped : Bool
  pub current : IsCurrent swapped files
  pub b : Base
  pub base : ℕ
  pub start : b.start ≤ base
  pub counted : IsCounted b base
  pub log : History
  pub has : HasStore b base log (named swapped files)
  pub lawful : IsLawful b page_tree log
  pub earlier : List Effect
  pub made : apply_all empty earlier ≡ b.map
  pub is : effects ≡ earlier ++ seen (committed log)

-- The two logs are such that one of them is the current one, or neither is made; and by its name that one spells its records, or no store was made yet.
pub record SpellsCurrent (files : Files) : Type 0 where
  pub has : HasCurrent files
  pub swapped : Bool
  pub current : IsCurrent swapped files
  pub spells : SpellsLog (named swapped files)

-- The files stand for the effects before the life, and a front of those that were asked in it, in which is each that was acknowledged.
abbrev pub Allowed : List Effect → Shown → Files → Type 0
Allowed before s files = StandsForMore StandsFor before s.asked files
