use Rattle.std.proofs.Common.{◌≡◌, ◌++◌, ◌-◌, ◌≤◌, filter, take, drop, length, not}
use Rattle.im_base_txn.specs.Rows.{is_of}
use Rattle.im_base_txn.proofs.table.Table.end.Given as goal

abbrev pub invariant-loop-at : goal.invariant-loop-at
invariant-loop-at l = record {
  within : l.at ≤ length l.self-inside.rows.items;
  same : take l.at l.self-inside.rows.items ++ filter (λ row. not (is_of l.number row)) (drop l.at l.self-inside.rows.items) ≡ filter (λ row. not (is_of l.number row)) l.fn.self;
}

abbrev pub decreases-loop-at : goal.decreases-loop-at
decreases-loop-at l = length l.self-inside.rows.items - l.at
