-- A restart with the current log of two.
use Rattle.std.specs.Prelude.{◌≡◌, ◌≢◌, ◌≤◌, ◌^◌, ◌++◌, ℕ, List, Some, Result, IfErr, OnOk, false}
use Rattle.std.specs.FinMap.{empty}
use Rattle.im_base_types.specs.declared.fault.Fault.{Fault}
use Rattle.im_base_types.specs.declared.fault.Fault.TheVariants.{Capacity, NotAStore}
use Rattle.im_base_types.specs.declared.file_id.FileId.TheVariants.{Log, Pages}
use Rattle.im_base_types.specs.Changes.{Effect, apply_all, seen}
use Rattle.im_base_types.specs.Lives.{nothing_shown}
use Rattle.im_theory_log.specs.Histories.{Base}
use Rattle.im_theory_log.specs.Lawful.{IsLawful}
use Rattle.im_theory_log.specs.Transactions.{committed}
use Rattle.im_theory_log.specs.Writer.{Writer}
use Rattle.im_base_disk.specs.declared.disk.Disk.{Ghosts}
use Rattle.im_base_two_logs.specs.Renamed.{named}
use Rattle.im_base_two_logs.specs.Runs.{LeavesNamed}
use Rattle.im_log_gate.specs.Gate.{first_of}
use Rattle.im_log_gate.specs.Header.{first_gate, least_number}
use Rattle.im_theory_page.specs.PageFile.{file_page}
use Rattle.im_page_writer.specs.declared.page_writer.PageWriter.{PageWriter}
use Rattle.im_page_writer.specs.Outcome.{IsSound}
use Rattle.im_page_writer.specs.PageWriter.{StandsAs}
use Rattle.im_theory_tree.specs.Theory.{page_tree}
use Rattle.im_theory_steps.specs.Growth.{AreBelow}
use Rattle.im_restart_analysis.specs.Losers.{is_loser}
use Rattle.im_restart_analysis.specs.Numbers.{IsNextNumber}
use Rattle.im_restart_analysis.specs.Orderly.{IsCounted}
use Rattle.im_restart.specs.Restart.{IsReport, RunsOut}
use Rattle.im_engine.specs.declared.restarting.Current.{Current}
use Rattle.im_engine.specs.Stands.{Allowed, StandsFor}

-- The current log is of the second format.
abbrev pub IsOfSecond : {D : Type 0} → Ghosts D → D → Type 0
IsOfSecond d disk = first_gate (d.seen disk Log) ≡ 47

module _ {D : Type 0} (d : Ghosts D) (before : List Effect) where
  -- The writer of pages stands over a log that leaves nothing to undo, and all of which is durable. The effects are those that made the map that the log begins with, and then its own; and no number from the next one on has a record in it.
  pub record IsAtRest (next : ℕ) (w : PageWriter) (disk : D) : Type 0 where
    pub b : Base
    pub base : ℕ
    pub start : b.start ≤ base
    pub counted : IsCounted b base
    pub now : Writer
    pub stands : StandsAs d b base now w disk
    pub redo_end : ℕ
    pub over : now.redo_end ≡ Some redo_end
    pub durable : now.durable ≡ now.log
    pub lawful : IsLawful b page_tree now.log
    pub ended : (t : ℕ) → is_loser t now.log ≡ false
    pub earlier : List Effect
    pub made : apply_all empty earlier ≡ b.map
    pub is : before ≡ earlier ++ seen (committed now.log)
    pub numbered : 1 ≤ next → next ≤ 2 ^ 62 → AreBelow next now.log

  -- The store is at rest with a log of the second format. The header of one that was made for this has the number that comes next.
  pub record IsUpgraded (next : ℕ) (v w : PageWriter) (new : D) : Type 0 where
    pub rest : IsAtRest next w new
    pub second : IsOfSecond d new
    pub number : first_of v.log.gate ≡ 31 → least_number (d.seen new Log) ≡ next

  -- What an upgrade keeps of a store at rest: a stop within leaves files that stand for the same effects. It is refused neither as no store, nor since generations are used up.
  pub record UpgradeKept (next : ℕ) (v : PageWriter) (old : D) (w : PageWriter) (new : D) (result : Result Unit Fault) : Type 0 where
    pub ok : OnOk result (IsUpgraded next v w new)
    pub stops : LeavesNamed d old new (Allowed before nothing_shown)
    pub cause : IfErr result (λ e. (e ≢ NotAStore) × (e ≢ Capacity))

  module _ (old : D) (stands : StandsFor before (d.seen old)) where
    -- What a restart answers: a store at rest, whose log is of the second format, the number of the next transaction, and what redo did.
    pub record IsRestartedCurrent (r : Current) (new : D) : Type 0 where
      pub rest : IsAtRest r.restarted.next r.restarted.writer new
      pub second : IsOfSecond d new
      pub next : IsNextNumber (least_number (named stands.swapped (d.seen old) Log)) r.restarted.next stands.log
      pub report : IsReport stands.b stands.log (file_page (d.seen old Pages)) r.restarted.report

    -- What it keeps of files that stand for these effects: a stop within leaves files that stand for the same, and they are never found to be no store.
    pub record CurrentKept (new : D) (result : Result Current Fault) : Type 0 where
      pub sound : IsSound result (λ r. IsRestartedCurrent r new)
      pub stops : LeavesNamed d old new (Allowed before nothing_shown)
      pub used_up : IfErr result (λ e. e ≡ Capacity → RunsOut stands.b stands.log)
