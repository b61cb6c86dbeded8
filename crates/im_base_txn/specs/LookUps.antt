-- What is found in a table after each of its changes.
use Rattle.std.specs.Prelude.{◌≡◌, ◌≢◌, ℕ, suc, ◌+◌, List, [], ◌∷◌, ◌++◌, length, map, not, None, Some}
use Rattle.std.specs.List.{filter, find}
use Rattle.im_base_txn.specs.declared.transaction.Transaction.{Transaction}
use Rattle.im_base_txn.specs.Rows.{AreBelow, AreRising, begun, changed, is_of, without_waiting}

-- a change of rows that keeps their numbers
abbrev pub Keeps : (Transaction → Transaction) → Type 0
Keeps f = (row : Transaction) → (f row).number ≡ row.number

-- the table without the row of this number
abbrev pub without : ℕ → List Transaction → List Transaction
without n rows = filter (λ row. not (is_of n row)) rows

pub record LookUpsFollow : Type 0 where
  -- a row that is found has the number
  pub found : (n : ℕ) (rows : List Transaction) (row : Transaction) → find (is_of n) rows ≡ Some row → row.number ≡ n
  -- numbers below n are not n
  pub fresh : (n : ℕ) (rows : List Transaction) → AreBelow n rows → find (is_of n) rows ≡ None
  -- a transaction that has begun is found, and the others as they were
  pub begun_own : (n : ℕ) (rows : List Transaction) → find (is_of n) rows ≡ None → find (is_of n) (rows ++ begun n ∷ []) ≡ Some (begun n)
  pub begun_other : (u n : ℕ) (rows : List Transaction) → u ≢ n → find (is_of u) (rows ++ begun n ∷ []) ≡ find (is_of u) rows
  -- so is one whose row was changed
  pub changed_own : (n : ℕ) (f : Transaction → Transaction) → Keeps f → (rows : List Transaction) (row : Transaction) → find (is_of n) rows ≡ Some row → find (is_of n) (map (changed n f) rows) ≡ Some (f row)
  pub changed_other : (u n : ℕ) (f : Transaction → Transaction) → Keeps f → (rows : List Transaction) → u ≢ n → find (is_of u) (map (changed n f) rows) ≡ find (is_of u) rows
  -- one that has ended is not found, the others are, and the table is one row shorter
  pub ended_own : (n : ℕ) (rows : List Transaction) → find (is_of n) (without n rows) ≡ None
  pub ended_other : (u n : ℕ) (rows : List Transaction) → u ≢ n → find (is_of u) (without n rows) ≡ find (is_of u) rows
  pub ended_length : (n : ℕ) (rows : List Transaction) (row : Transaction) → AreRising rows → find (is_of n) rows ≡ Some row → length rows ≡ length (without n rows) + 1

-- numbers stay below the next one
pub record NumbersStayBelow : Type 0 where
  pub begins : (n : ℕ) (rows : List Transaction) → AreBelow n rows → AreBelow (suc n) (rows ++ begun n ∷ [])
  pub changes : (next n : ℕ) (f : Transaction → Transaction) → Keeps f → (rows : List Transaction) → AreBelow next rows → AreBelow next (map (changed n f) rows)
  pub ends : (next n : ℕ) (rows : List Transaction) → AreBelow next rows → AreBelow next (without n rows)
  pub forces : (next : ℕ) (rows : List Transaction) → AreBelow next rows → AreBelow next (without_waiting rows)
