use Rattle.std.proofs.Common.{◌≡◌, ◌≤◌, take}
use Rattle.im_theory_page.specs.Entry.{taken}
use Rattle.im_theory_page.specs.Form.{entries_of}
use Rattle.im_page.proofs.split.split_point.Given as goal

-- what the entries before i take, which is not too much yet
abbrev pub invariant-loop-i : goal.invariant-loop-i
invariant-loop-i l = record {
  total : l.used ≡ taken l.leaf (take l.i (entries_of l.leaf l.bytes));
  small : l.used ≤ l.bound;
}
