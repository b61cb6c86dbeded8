use Rattle.im_tool_every.proofs.Verdicts.{together}
use Rattle.im_tool_every.proofs.guards.are_taken.Goals as goal

pub returns-then-is_together : goal.returns-then-is_together
returns-then-is_together c =
    together c.args.log.now c.args.log2.now c.args.pages.now c.front_of.result c.front_of-2.result c.pages_front_of.result c.front_of.ensures c.front_of-2.ensures c.pages_front_of.ensures (c.is_together.ensures.0 c.if-is_together.true)
    c.has_older_pages.result c.has_older_pages.ensures
