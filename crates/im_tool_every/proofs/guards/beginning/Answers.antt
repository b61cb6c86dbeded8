use Rattle.std.proofs.Common.{List, ℕ, ◌++◌, ◌∙◌, ap, arith, drop, length, replicate, sym}
use Rattle.std.proofs.lemmas.List.{take-append-le}
use Rattle.im_tool_every.proofs.Fronts.{over_zeros}
use Rattle.im_tool_every.proofs.guards.beginning.Goals as goal

pub returns-then-file-lt-FRONT : goal.returns-then-file-lt-FRONT
returns-then-file-lt-FRONT c = ap (λ (bytes : List ℕ). bytes ++ drop (length c.args.file.now) (replicate 65 0)) c.copy_from_slice.ensures.after ∙ over_zeros c.args.file.now c.if-file-lt-FRONT.true

pub returns-else-file-lt-FRONT : goal.returns-else-file-lt-FRONT
returns-else-file-lt-FRONT c = c.copy_from_slice-else-file-lt-FRONT.ensures.after ∙ sym (take-append-le 65 c.args.file.now (replicate 65 0) (omega (arith, c.if-file-lt-FRONT.false)))
