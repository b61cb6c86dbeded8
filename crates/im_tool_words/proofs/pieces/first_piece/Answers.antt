use Rattle.im_tool_words.proofs.Texts.{lacks_more}
use Rattle.im_tool_words.proofs.pieces.first_piece.Goals as goal

pub loop-end-preserved : goal.loop-end-preserved
loop-end-preserved c = lacks_more c.args.separator c.args.text.now c.loop-end.end c.loop-end-test.true c.if-text-end.false c.loop-end.invariant
