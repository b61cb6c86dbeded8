use Rattle.std.proofs.Common.{◌≡◌, ◌++◌, map, take, drop}
use Rattle.im_base_txn.specs.Rows.{changed, with_mark}
use Rattle.im_base_txn.proofs.table.Table.set_mark.Given as goal

abbrev pub invariant-loop-row : goal.invariant-loop-row
invariant-loop-row l = l.row-items ≡ map (changed l.number (with_mark l.mark)) (take l.row-index l.fn.self) ++ drop l.row-index l.fn.self
