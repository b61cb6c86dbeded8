use Rattle.std.proofs.Common.{arith}
use Rattle.std.proofs.lemmas.Grind.{common_steps}
use Rattle.im_page_writer.proofs.page_writer.PageWriter.take_from.Goals as goal

pub returns-clause-back : goal.returns-clause-back
returns-clause-back c was w d held = let back = c.take_back.ensures.back was held in grind (arith, common_steps, back)
