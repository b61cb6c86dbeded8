use Rattle.std.proofs.Common.{◌≡◌, Ok, ap}
use Rattle.im_tool.proofs.RisingLoads.{one_risen}
use Rattle.im_tool.proofs.rising.taken.Goals as goal

pub returns-in-Err-clause-stops : goal.returns-in-Err-clause-stops
returns-in-Err-clause-stops g c from n has = c.put.ensures.stops from has.entries has.loading

pub returns-then-pages-most-clause-stops : goal.returns-then-pages-most-clause-stops
returns-then-pages-most-clause-stops g c from n has = c.put.ensures.stops from has.entries has.loading

pub returns-then-rises-clause-taken : goal.returns-then-rises-clause-taken
returns-then-rises-clause-taken g c from n has _ =
    one_risen g.D.Disk from c.put.new.self c.put.new.disk n has.entries _ has.many (c.in-Ok.ensures.taken from has.entries has.loading (ap Ok c.if-rises.true)).1

pub returns-then-rises-clause-stops : goal.returns-then-rises-clause-stops
returns-then-rises-clause-stops g c from n has = c.put.ensures.stops from has.entries has.loading

pub returns-clause-same : goal.returns-clause-same
returns-clause-same g c _ = c.in-Ok.ensures.same (ap Ok c.if-rises.false)

pub returns-clause-stops : goal.returns-clause-stops
returns-clause-stops g c from n has = c.put.ensures.stops from has.entries has.loading
