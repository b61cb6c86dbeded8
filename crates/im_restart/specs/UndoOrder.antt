-- In which order the records of losers are taken back: the latest of all first.
use Rattle.std.specs.Prelude.{◌≡◌, ◌≤◌, ◌⊎◌, ℕ, [], ◌∷◌, ◌++◌, true}
use Rattle.im_base_types.specs.Records.{Logged}
use Rattle.im_theory_log.specs.Histories.{History}
use Rattle.im_theory_log.specs.Transactions.{to_undo, is_compensation}
use Rattle.im_restart_analysis.specs.Losers.{is_loser}
use Rattle.im_restart_undo.specs.Records.{GrowsByUndo}

-- No loser has a record with a greater LSN left to undo next.
abbrev pub IsLatest : ℕ → History → Type 0
IsLatest lsn log = (u : ℕ) (x : Logged) (rest : History) → is_loser u log ≡ true → to_undo u log ≡ x ∷ rest → x.lsn ≤ lsn

-- The record compensates the latest of all records that losers have left to undo, and leads past it.
pub record TakesBackLatest (r : Logged) (older : History) : Type 0 where
  pub undone : Logged
  pub rest : History
  pub stack : to_undo r.txn older ≡ undone ∷ rest
  pub leads : r.undo_next ≡ undone.prev
  pub latest : IsLatest undone.lsn older

-- So does each compensation among these records.
abbrev pub AreInOrder : History → History → Type 0
AreInOrder [] older = Unit {0}
AreInOrder (r ∷ more) older = (is_compensation r.what ≡ true → TakesBackLatest r (more ++ older)) × AreInOrder more older

-- The longer log is the older one with records whose compensations take back the latest first.
pub record IsInOrder (older longer : History) : Type 0 where
  pub more : History
  pub is : longer ≡ more ++ older
  pub all : AreInOrder more older

-- The transaction has a record left to undo, and no loser has a later one.
pub record GoesFirst (t : ℕ) (log : History) : Type 0 where
  pub next : Logged
  pub rest : History
  pub stack : to_undo t log ≡ next ∷ rest
  pub latest : IsLatest next.lsn log

-- The log is in order up to some place; the records after it were to take back what this transaction had left there, which was the latest of all.
pub record IsInTurn (older longer : History) : Type 0 where
  pub before : History
  pub order : IsInOrder older before
  pub txn : ℕ
  pub first : GoesFirst txn before
  pub grows : GrowsByUndo txn before longer

-- So it is with the log that a stop left.
abbrev pub IsNearlyInOrder : History → History → Type 0
IsNearlyInOrder older longer = IsInOrder older longer ⊎ IsInTurn older longer
