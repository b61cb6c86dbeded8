use Rattle.std.proofs.Common.{◌≡◌, length, ap, arith}
use Rattle.im_tool_words.proofs.KeyWords.{repeated_cut}
use Rattle.im_tool_words.proofs.key_word.repeated_of.Goals as goal

pub returns-then-sign-ne1-clause-refused : goal.returns-then-sign-ne1-clause-refused
returns-then-sign-ne1-clause-refused c letter times r =
    let e = repeated_cut c.args.word.now c.first_piece.result.0.now c.in-Some.times.now letter times r (rw c.in-Some.is at c.first_piece.ensures.cut) c.first_piece.ensures.lacks in
    let one : length c.first_piece.result.0.now ≡ 1 = ap length e.0 in absurd (omega arith)
