use Rattle.std.proofs.Common.{◌≡◌, ◌≤◌, ℕ, true}
use Rattle.std.specs.FinMap.{entries}
use Rattle.im_tool_judge.specs.Judged.{IsAllowed, held_entries}
use Rattle.im_tool_judge.proofs.Fronts.{IsGoodFront, map_behind}
use Rattle.im_tool_judge.proofs.judge.is_allowed.Given as goal

-- the map after the effects so far, and whether a front of them is one that the life may leave
abbrev pub invariant-loop-i : goal.invariant-loop-i
invariant-loop-i l = record {
  map : held_entries l.map.entries.items ≡ entries (map_behind l.asked l.i);
  sound : l.good ≡ true → IsAllowed l.asked l.found;
  whole : (n : ℕ) → n ≤ l.i → IsGoodFront l.asked l.found n → l.good ≡ true;
}
