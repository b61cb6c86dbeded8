use Rattle.std.proofs.Common.{◌≡◌, None, drop}
use Rattle.im_page_table.specs.DirtyTable.{oldest_among}
use Rattle.im_page_table.proofs.dirty_table.DirtyTable.oldest_change.Given as goal

abbrev pub invariant-loop-at : goal.invariant-loop-at
invariant-loop-at l = record {
  left : oldest_among None l.self.entries ≡ oldest_among l.found (drop l.at l.self.entries);
}
