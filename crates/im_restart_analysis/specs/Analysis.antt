-- What analysis knows of the records that it took.
use Rattle.std.specs.Prelude.{◌≡◌, ◌≢◌, ◌↔◌, ◌≤◌, ℕ, ◌∷◌, false, Result, Err, OnOk}
use Rattle.im_base_types.specs.declared.fault.Fault.{Fault}
use Rattle.im_base_types.specs.declared.fault.Fault.TheVariants.{NotAStore}
use Rattle.im_base_types.specs.Records.{Logged, Unreadable}
use Rattle.im_theory_log.specs.Histories.{History}
use Rattle.im_theory_log.specs.Transactions.{is_finished}
use Rattle.im_theory_log.specs.RedoPoints.{redo_point}
use Rattle.im_restart_analysis.specs.declared.analysis.Analysis.{Analysis}
use Rattle.im_restart_analysis.specs.declared.analysis.Analysed.{Analysed}
use Rattle.im_restart_analysis.specs.Losers.{AreLosers}
use Rattle.im_restart_analysis.specs.Numbers.{IsNextNumber, redo_point_of}
use Rattle.im_restart_analysis.specs.CopyLsns.{AreCopies, IsAbove, LsnsRise}
use Rattle.im_restart_analysis.specs.OpenChange.{IsOpenChange, OpensAnother}
use Rattle.im_restart_analysis.specs.Orderly.{Knows}

-- The record may stand after these: its LSN is above theirs, its page images are pages, and its transaction is not finished.
pub record Continues (r : Logged) (older : History) : Type 0 where
  pub rises : IsAbove r.lsn older
  pub readable : r.what ≢ Unreadable
  pub unfinished : 1 ≤ r.txn → is_finished r.txn older ≡ false

-- After these records of a log whose transaction numbers begin at the lowest, and whose page counts begin at n.
pub record IsAnalysed (lowest n : ℕ) (log : History) (a : Analysis) : Type 0 where
  pub rises : LsnsRise log
  pub next : IsNextNumber lowest a.next log
  pub point : a.point ≡ redo_point_of log
  pub losers : AreLosers a.losers log
  pub copies : AreCopies 0 a.copies log
  pub known : Knows n log a

-- The record is taken, or refused where it opens a structure change beside another's.
pub record TakeKept (lowest n : ℕ) (older : History) (r : Logged) (new : Analysis) (result : Result Unit Fault) : Type 0 where
  pub ok : OnOk result (IsAnalysed lowest n (r ∷ older) new)
  pub refused : (result ≡ Err NotAStore) ↔ OpensAnother r older

-- nothing is changed
pub record IsUnchanged (old new : Analysis) : Type 0 where
  pub next : new.next ≡ old.next
  pub point : new.point ≡ old.point
  pub losers : new.losers.entries ≡ old.losers.entries
  pub copies : new.copies.entries ≡ old.copies.entries
  pub open_change : new.open_change.items ≡ old.open_change.items
  pub count : new.count ≡ old.count

-- What a restart has to know of the log, whose transaction numbers begin at the lowest.
pub record IsAnalysis (lowest : ℕ) (log : History) (a : Analysed) : Type 0 where
  pub next : IsNextNumber lowest a.next log
  pub point : a.redo_point ≡ redo_point log
  pub losers : AreLosers a.losers log
  pub copies : AreCopies (redo_point log) a.copies log
  pub open_change : IsOpenChange a.open_change.items log
