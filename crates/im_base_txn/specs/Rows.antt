-- The rows of the table, in rising number.
use Rattle.std.specs.Prelude.{◌<◌, ◌==◌, ℕ, Bool, true, false, not, List, [], ◌∷◌, Option, None, Some, length, filter, map, if◌then◌else◌}
use Rattle.im_base_txn.specs.declared.transaction.Mark.{Mark}
use Rattle.im_base_txn.specs.declared.transaction.Mark.TheVariants.{Going, MustRollBack, RollingBack, Returning, Committing}
use Rattle.im_base_txn.specs.declared.transaction.Transaction.{Transaction}

-- A transaction that has just begun.
abbrev pub begun : ℕ → Transaction
begun number = record { number = number; last = 0; undo_next = 0; mark = Going; changes = 0 }

-- Each of these numbers is above this one.
abbrev pub AreAbove : ℕ → List Transaction → Type 0
AreAbove n [] = Unit {0}
AreAbove n (row ∷ rows) = (n < row.number) × AreAbove n rows

-- Numbers rise, so that each stands once.
abbrev pub AreRising : List Transaction → Type 0
AreRising [] = Unit {0}
AreRising (row ∷ rows) = AreAbove row.number rows × AreRising rows

-- Each of these numbers is below this one.
abbrev pub AreBelow : ℕ → List Transaction → Type 0
AreBelow n [] = Unit {0}
AreBelow n (row ∷ rows) = (row.number < n) × AreBelow n rows

-- Whether a row has this number.
abbrev pub is_of : ℕ → Transaction → Bool
is_of number row = row.number == number

-- A transaction after a record.
abbrev pub with_record : ℕ → ℕ → Transaction → Transaction
with_record last undo_next row = record { number = row.number; last = last; undo_next = undo_next; mark = row.mark; changes = row.changes }

-- A transaction after a record with which a change is made or taken back: so many changes stand then.
abbrev pub with_changes : ℕ → ℕ → ℕ → Transaction → Transaction
with_changes last undo_next changes row = record { number = row.number; last = last; undo_next = undo_next; mark = row.mark; changes = changes }

-- A transaction with this mark.
abbrev pub with_mark : Mark → Transaction → Transaction
with_mark mark row = record { number = row.number; last = row.last; undo_next = row.undo_next; mark = mark; changes = row.changes }

-- A row after a change of the transaction of this number.
abbrev pub changed : ℕ → (Transaction → Transaction) → Transaction → Transaction
changed number change row = if row.number == number then change row else row

-- Its Commit is logged, and waits for a force.
abbrev pub is_committing : Mark → Bool
is_committing Committing = true
is_committing Going = false
is_committing MustRollBack = false
is_committing RollingBack = false
is_committing (Returning n) = false

abbrev pub is_waiting : Transaction → Bool
is_waiting row = is_committing row.mark

-- Whether a row that is found waits.
abbrev pub waits_at : Option Transaction → Bool
waits_at None = false
waits_at (Some row) = is_waiting row

-- The numbers of those that wait.
abbrev pub waiting_numbers : List Transaction → List ℕ
waiting_numbers rows = map (λ row. row.number) (filter is_waiting rows)

-- How many wait.
abbrev pub waiting_in : List Transaction → ℕ
waiting_in rows = length (filter is_waiting rows)

-- The table without those that wait.
abbrev pub without_waiting : List Transaction → List Transaction
without_waiting rows = filter (λ row. not (is_waiting row)) rows
