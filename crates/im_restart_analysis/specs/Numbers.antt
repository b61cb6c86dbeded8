-- The number of the next transaction, and the redo point as far as there are records.
use Rattle.std.specs.Prelude.{◌≡◌, ℕ, ◌≤◌, ◌<◌, ◌-◌, ◌^◌, min, List, [], ◌∷◌, Option, None, Some}
use Rattle.im_base_types.specs.Records.{Checkpoint, Logged}
use Rattle.im_base_types.specs.declared.tables.ActiveTransaction.{ActiveTransaction}
use Rattle.im_base_types.specs.declared.tables.DirtyPage.{DirtyPage}
use Rattle.im_theory_log.specs.Histories.{History, IsRecordOf}
use Rattle.im_theory_log.specs.RedoPoints.{redo_point}

-- The number is not below the least one, above every transaction number of the log, and not below the next number of any of its Checkpoints.
pub record IsNew (lowest n : ℕ) (log : History) : Type 0 where
  pub least : lowest ≤ n
  pub above : (r : Logged) → IsRecordOf r log → r.txn < n
  pub noted : (r : Logged) (m : ℕ) (a : List ActiveTransaction) (d : List DirtyPage) → IsRecordOf r log → r.what ≡ Checkpoint m a d → m ≤ n

-- The next number of a log whose numbers begin at the lowest: the least new one, or 2^64 - 1 where that is no u64.
pub record IsNextNumber (lowest next : ℕ) (log : History) : Type 0 where
  pub number : ℕ
  pub new : IsNew lowest number log
  pub least : (n : ℕ) → IsNew lowest n log → number ≤ n
  pub is : next ≡ min number (2 ^ 64 - 1)

-- the redo point of a log that has records
abbrev pub redo_point_of : History → Option ℕ
redo_point_of [] = None
redo_point_of (r ∷ older) = Some (redo_point (r ∷ older))
