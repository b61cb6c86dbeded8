use Rattle.std.proofs.Common.{◌≡◌, take}
use Rattle.im_tool_judge.specs.Judged.{held_entries}
use Rattle.im_tool_judge.proofs.sorted.Sorted.is.Given as goal

-- the entries so far are the same
abbrev pub invariant-loop-i : goal.invariant-loop-i
invariant-loop-i l = take l.i l.found ≡ take l.i (held_entries l.self.entries.items)
