use Rattle.std.proofs.Common.{ℕ, List, ◌++◌, length, drop, replicate, sym, ◌∙◌, ap, arith}
use Rattle.std.proofs.lemmas.List.{take-append-le}
use Rattle.im_log_header.proofs.Beginnings.{over_zeros}
use Rattle.im_log_header.proofs.beginning.padded.Goals as goal

pub returns-then-head-lt47 : goal.returns-then-head-lt47
returns-then-head-lt47 c = ap (λ (bytes : List ℕ). bytes ++ drop (length c.args.head.now) (replicate 47 0)) c.copy_from_slice.ensures.after ∙ over_zeros c.args.head.now c.if-head-lt47.true

pub returns-else-head-lt47 : goal.returns-else-head-lt47
returns-else-head-lt47 c = c.copy_from_slice-else-head-lt47.ensures.after ∙ sym (take-append-le 47 c.args.head.now (replicate 47 0) (omega (arith, c.if-head-lt47.false)))
