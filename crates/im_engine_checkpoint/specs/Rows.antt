-- The rows of the table of transactions that a Checkpoint lists.
use Rattle.std.specs.Prelude.{◌==◌, ◌&&◌, Bool, not, List, map, filter}
use Rattle.im_base_types.specs.declared.tables.ActiveTransaction.{ActiveTransaction}
use Rattle.im_base_txn.specs.declared.transaction.Transaction.{Transaction}
use Rattle.im_base_txn.specs.Rows.{is_committing}

-- A transaction is listed that has logged a record, unless its Commit is logged too: restart has nothing to take back of that one.
abbrev pub is_listed : Transaction → Bool
is_listed row = not (is_committing row.mark) && not (row.last == 0)

-- its number, its last LSN and its next LSN to undo
abbrev pub as_listed : Transaction → ActiveTransaction
as_listed row = record { transaction = row.number; last = row.last; undo_next = row.undo_next }

-- the rows that are listed, in the table's order
abbrev pub listed : List Transaction → List ActiveTransaction
listed rows = map as_listed (filter is_listed rows)
