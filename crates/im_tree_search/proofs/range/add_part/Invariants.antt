use Rattle.std.proofs.Common.{◌≡◌, ◌≤◌, ◌<◌, ◌⊎◌, length}
use Rattle.im_tree_search.proofs.Ranges.{Taken}
use Rattle.im_tree_search.proofs.range.add_part.Given as goal

abbrev pub invariant-loop-i : goal.invariant-loop-i
invariant-loop-i l = record {
  taken : l.list.items ≡ Taken l.fn.list.items l.page.body.entries l.from l.i;
  room : length l.list.items < l.limit;
  at : (l.i ≤ l.to) ⊎ (l.i ≡ l.from);
}
