use Rattle.im_tool_lines.specs.Scripts.{lines_of}
use Rattle.im_tool_lines.proofs.Lines.{lines_left, left_of}
use Rattle.im_tool_lines.proofs.RawTexts.{Sought}
use Rattle.im_tool_lines.proofs.raw_text.is_raw.Given as goal

-- the lines so far are neither `raw` nor `life`
abbrev pub invariant-loop-left : goal.invariant-loop-left
invariant-loop-left l = Sought (lines_of l.fn.text) (lines_left l.left)

abbrev pub decreases-loop-left : goal.decreases-loop-left
decreases-loop-left l = left_of l.left
