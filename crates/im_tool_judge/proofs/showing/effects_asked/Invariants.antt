use Rattle.std.proofs.Common.{take}
use Rattle.im_base_types.specs.Lives.{nothing_shown}
use Rattle.im_tool_lines.specs.StoreShown.{shown_by_lines}
use Rattle.im_tool_judge.specs.Shows.{KeepsShown}
use Rattle.im_tool_judge.proofs.showing.effects_asked.Given as goal

-- what the lines so far show is kept
abbrev pub invariant-loop-i : goal.invariant-loop-i
invariant-loop-i l = KeepsShown l.showing (shown_by_lines nothing_shown (take l.i l.lines) (take l.i l.replies))
