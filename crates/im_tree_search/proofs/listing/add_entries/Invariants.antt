use Rattle.std.proofs.Common.{◌≡◌, ◌++◌, take}
use Rattle.im_tree_search.proofs.listing.add_entries.Given as goal

abbrev pub invariant-loop-i : goal.invariant-loop-i
invariant-loop-i l = l.list.items ≡ l.fn.list.items ++ take l.i l.page.body.entries
