use Rattle.std.proofs.Common.{◌≡◌, ◌++◌, map, take, drop}
use Rattle.im_base_txn.specs.Rows.{changed, with_changes}
use Rattle.im_base_txn.proofs.table.Table.note_change.Given as goal

abbrev pub invariant-loop-row : goal.invariant-loop-row
invariant-loop-row l = l.row-items ≡ map (changed l.number (with_changes l.lsn l.undo_next l.changes)) (take l.row-index l.fn.self) ++ drop l.row-index l.fn.self
