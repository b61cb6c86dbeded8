use Rattle.std.proofs.Common.{◌≡◌}
use Rattle.im_base_types.specs.Maps.{without_key}
use Rattle.im_tool_judge.specs.Judged.{held_entries}
use Rattle.im_tool_judge.proofs.sorted.without.Given as goal

-- those so far without the key
abbrev pub invariant-loop-entry : goal.invariant-loop-entry
invariant-loop-entry l = held_entries l.kept.items ≡ without_key l.key (held_entries l.yielded)
