-- The rows that a Checkpoint lists: their numbers rise, as the table's do.
use Rattle.std.proofs.Common.{ℕ, List, [], ◌∷◌, Bool, true, false, map, filter, None, Some, if◌then◌else◌}
use Rattle.im_base_types.specs.declared.tables.ActiveTransaction.{ActiveTransaction}
use Rattle.im_log_record.specs.Spelling.{Rise}
use Rattle.im_base_txn.specs.declared.transaction.Transaction.{Transaction}
use Rattle.im_base_txn.specs.Rows.{AreAbove, AreRising}
use Rattle.im_engine_checkpoint.specs.Rows.{as_listed, is_listed, listed}

rise_above : (n : ℕ) (rows : List Transaction) → AreAbove n rows → AreRising rows → Rise (λ (a : ActiveTransaction). a.transaction) (Some n) (listed rows)
rise_above n [] above rising = tt
rise_above n (row ∷ rows) above rising =
    elim (is_listed row) as (λ (t : Bool). Rise (λ (a : ActiveTransaction). a.transaction) (Some n) (map as_listed (if t then row ∷ filter is_listed rows else filter is_listed rows))) [
      | true ↦ (above.0, rise_above row.number rows rising.0 rising.1)
      | false ↦ rise_above n rows above.1 rising.1
    ]

pub rise_listed : (rows : List Transaction) → AreRising rows → Rise (λ (a : ActiveTransaction). a.transaction) None (listed rows)
rise_listed [] rising = tt
rise_listed (row ∷ rows) rising =
    elim (is_listed row) as (λ (t : Bool). Rise (λ (a : ActiveTransaction). a.transaction) None (map as_listed (if t then row ∷ filter is_listed rows else filter is_listed rows))) [
      | true ↦ (tt, rise_above row.number rows rising.0 rising.1)
      | false ↦ rise_listed rows rising.1
    ]
