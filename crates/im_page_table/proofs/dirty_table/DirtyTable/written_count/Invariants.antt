use Rattle.std.proofs.Common.{◌≡◌, ◌≤◌, drop}
use Rattle.im_page_table.specs.DirtyTable.{with_written}
use Rattle.im_page_table.proofs.dirty_table.DirtyTable.written_count.Given as goal

abbrev pub invariant-loop-at : goal.invariant-loop-at
invariant-loop-at l = record {
  left : with_written 0 l.self.entries ≡ with_written l.count (drop l.at l.self.entries);
  few : l.count ≤ l.at;
}
