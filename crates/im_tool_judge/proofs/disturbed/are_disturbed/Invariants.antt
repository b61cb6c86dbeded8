use Rattle.std.proofs.Common.{◌↔◌, false, drop}
use Rattle.im_tool_judge.specs.Disturbed.{AreDisturbed}
use Rattle.im_tool_judge.proofs.disturbed.are_disturbed.Given as goal

-- the replies from here on decide
abbrev pub invariant-loop-i : goal.invariant-loop-i
invariant-loop-i l = AreDisturbed l.fails false l.plain l.told ↔ AreDisturbed l.fails l.failed (drop l.i l.plain) (drop l.i l.told)
