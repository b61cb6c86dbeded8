use Rattle.std.proofs.lemmas.Bool.{iff_false}
use Rattle.im_log_third_header.proofs.Saying.{never_another, never_past}
use Rattle.im_log_third_header.proofs.spelling.parse.Goals as goal

pub returns-then-not-same-clause-none : goal.returns-then-not-same-clause-none
returns-then-not-same-clause-none c is_none = never_another c.said_in-said.result c.args.bytes c.said_in-said.ensures (c.is_spelled-same.ensures.no c.if-not-same.true)

pub returns-then-not-ranged-clause-none : goal.returns-then-not-ranged-clause-none
returns-then-not-ranged-clause-none c is_none = never_past c.said_in-said.result c.args.bytes c.said_in-said.ensures (iff_false c.is_ranged-ranged.ensures c.if-not-ranged.true)
