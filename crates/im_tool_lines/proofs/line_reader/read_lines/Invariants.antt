use Rattle.std.proofs.Common.{◌≤◌, ◌+◌, suc, length}
use Rattle.im_tool_lines.specs.Scripts.{lines_of}
use Rattle.im_tool_lines.proofs.Lines.{lines_left, left_of}
use Rattle.im_tool_lines.proofs.Passed.{Passed}
use Rattle.im_tool_lines.proofs.line_reader.read_lines.Given as goal

-- the lines that were passed, and those that are left
abbrev pub invariant-loop-left : goal.invariant-loop-left
invariant-loop-left g l =
    let reads = g.R.LineReader in
    record {
      count : l.number + left_of l.left ≤ suc (length l.fn.text);
      passed : Passed reads.spells reads.kind reads.has_read (lines_of l.fn.text) l.number (lines_left l.left) l.reader;
    }

abbrev pub decreases-loop-left : goal.decreases-loop-left
decreases-loop-left g l = left_of l.left
