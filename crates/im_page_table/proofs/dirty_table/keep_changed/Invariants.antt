use Rattle.std.proofs.Common.{◌≡◌, ◌≤◌, ◌++◌, length, take, drop, vec_capacity}
use Rattle.im_page_table.specs.DirtyTable.{synced_among}
use Rattle.im_page_table.proofs.dirty_table.keep_changed.Given as goal

abbrev pub invariant-loop-at : goal.invariant-loop-at
invariant-loop-at l = record {
  kept_low : l.kept ≤ l.at;
  same : length l.entries.items ≡ length l.fn.entries.items;
  done : synced_among l.fn.entries.items ≡ take l.kept l.entries.items ++ synced_among (drop l.at l.entries.items);
  room : vec_capacity l.entries ≡ vec_capacity l.fn.entries;
}
