-- What a round of redo keeps.
use Rattle.std.specs.Prelude.{ℕ, ◌+◌, ◌-◌, ◌≤◌, List, [], ◌∷◌, drop, Option, None, Some, Result}
use Rattle.im_base_types.specs.declared.fault.Fault.{Fault}
use Rattle.im_base_types.specs.Pages.{Page}
use Rattle.im_theory_log.specs.Histories.{Base, History}
use Rattle.im_base_disk.specs.declared.disk.Disk.{Ghosts}
use Rattle.im_log.specs.Span.{IsWhole}
use Rattle.im_page_writer.specs.declared.page_writer.PageWriter.{PageWriter}
use Rattle.im_restart_redo.specs.declared.rounds.Passed.{Passed}
use Rattle.im_restart_redo.specs.Redo.{RedoSound}
use Rattle.im_restart_redo.specs.Applying.{IsApplying}

-- All of a record stands at an LSN, by the length that stands there, in a part of the log that begins at another.
pub record IsWholeAt (from : ℕ) (span : List ℕ) (lsn : ℕ) : Type 0 where
  pub low : from ≤ lsn
  pub whole : IsWhole (drop (lsn - from) span)

-- so it does at each of these
abbrev pub AreWhole : ℕ → List ℕ → List ℕ → Type 0
AreWhole from span [] = Unit {0}
AreWhole from span (l ∷ lsns) = IsWholeAt from span l × AreWhole from span lsns

-- what records keep of these that are left, with so many applied before
abbrev pub PassedKept : {D : Type 0} → Ghosts D → Base → ℕ → History → (ℕ → Option Page) → List ℕ → ℕ → D → PageWriter → D → Result Passed Fault → Type 0
PassedKept {D} d b base begun file lsns count from w disk result = RedoSound d b base begun (λ passed. IsApplying d b base begun file (drop passed.changes lsns) (count + passed.applied) from w disk) from disk result

-- what went past, where a round of so many records was redone and so many were applied; or nothing, where it was not
abbrev pub passed_of : ℕ → Option ℕ → Passed
passed_of n None = record { changes = 0; applied = 0 }
passed_of n (Some applied) = record { changes = n; applied = applied }
