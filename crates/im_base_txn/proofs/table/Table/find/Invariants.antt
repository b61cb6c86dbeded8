use Rattle.std.proofs.Common.{◌≡◌, find, drop}
use Rattle.im_base_txn.specs.Rows.{is_of}
use Rattle.im_base_txn.proofs.table.Table.find.Given as goal

abbrev pub invariant-loop-row : goal.invariant-loop-row
invariant-loop-row l = find (is_of l.number) (drop l.row-index l.row-items) ≡ find (is_of l.number) l.row-items
