use Rattle.std.proofs.Common.{◌≡◌, take}
use Rattle.std.specs.FinMap.{entries}
use Rattle.im_base_types.specs.Maps.{IndexMap}
use Rattle.im_tool_judge.specs.Judged.{held_entries, made_in_turn}
use Rattle.im_tool_judge.proofs.sorted.Sorted.make_all.Given as goal

-- the changes so far are made
abbrev pub invariant-loop-change : goal.invariant-loop-change
invariant-loop-change l = (m : IndexMap) → held_entries l.fn.self.entries.items ≡ entries m → held_entries l.self.entries.items ≡ entries (made_in_turn m (take l.change-index l.changes))
