use Rattle.std.proofs.Common.{◌≡◌, map, take, length, vec_capacity}
use Rattle.im_page_table.proofs.dirty_table.DirtyTable.copy_numbers.Given as goal

abbrev pub invariant-loop-at : goal.invariant-loop-at
invariant-loop-at l = record {
  done : l.numbers.items ≡ map (λ x. x.page) (take l.at l.self.entries);
  len : length l.numbers.items ≡ l.at;
  room : vec_capacity l.numbers ≡ vec_capacity l.fn.numbers;
}
