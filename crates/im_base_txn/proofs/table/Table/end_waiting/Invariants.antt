use Rattle.std.proofs.Common.{◌≡◌, ◌++◌, ◌-◌, ◌≤◌, filter, take, drop, length, not}
use Rattle.im_base_txn.specs.Rows.{is_waiting}
use Rattle.im_base_txn.proofs.table.Table.end_waiting.Given as goal

abbrev pub invariant-loop-i : goal.invariant-loop-i
invariant-loop-i l = record {
  within : l.i ≤ length l.self-inside.rows.items;
  same : take l.i l.self-inside.rows.items ++ filter (λ row. not (is_waiting row)) (drop l.i l.self-inside.rows.items) ≡ filter (λ row. not (is_waiting row)) l.fn.self;
}

abbrev pub decreases-loop-i : goal.decreases-loop-i
decreases-loop-i l = length l.self-inside.rows.items - l.i
