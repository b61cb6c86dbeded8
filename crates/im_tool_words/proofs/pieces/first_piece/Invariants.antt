use Rattle.std.proofs.Common.{take}
use Rattle.im_tool_words.specs.Words.{LacksByte}
use Rattle.im_tool_words.proofs.pieces.first_piece.Given as goal

-- no separator so far
abbrev pub invariant-loop-end : goal.invariant-loop-end
invariant-loop-end l = LacksByte l.separator (take l.end l.text)
