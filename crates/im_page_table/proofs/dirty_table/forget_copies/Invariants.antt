use Rattle.std.proofs.Common.{◌≡◌, ◌++◌, length, map, take, drop, vec_capacity}
use Rattle.im_page_table.specs.DirtyTable.{uncopied}
use Rattle.im_page_table.proofs.dirty_table.forget_copies.Given as goal

abbrev pub invariant-loop-at : goal.invariant-loop-at
invariant-loop-at l = record {
  same : length l.entries.items ≡ length l.fn.entries.items;
  done : map uncopied l.fn.entries.items ≡ take l.at l.entries.items ++ map uncopied (drop l.at l.entries.items);
  room : vec_capacity l.entries ≡ vec_capacity l.fn.entries;
}
