use Rattle.std.proofs.Common.{Ok, ap}
use Rattle.im_tool.proofs.RisingLoads.{half_risen, kept_risen}
use Rattle.im_tool.proofs.rising.take_read.Goals as goal

pub returns-in_default-clause-stops : goal.returns-in_default-clause-stops
returns-in_default-clause-stops g c from n has = half_risen g.D.Disk from c.args.loader.now c.args.disk.now n has

pub returns-in_err-rises-clause-stops : goal.returns-in_err-rises-clause-stops
returns-in_err-rises-clause-stops g c from n has = c.taken.ensures.stops from n has

pub returns-then-rises-clause-risen : goal.returns-then-rises-clause-risen
returns-then-rises-clause-risen g c from n has = c.in_ok-rises.ensures.taken from n has (ap Ok c.if-rises.true)

pub returns-then-rises-clause-stops : goal.returns-then-rises-clause-stops
returns-then-rises-clause-stops g c from n has = c.taken.ensures.stops from n has

pub returns-clause-risen : goal.returns-clause-risen
returns-clause-risen g c from n has =
    kept_risen g.D.Disk from c.args.loader.now c.taken.new.loader c.args.disk.now c.taken.new.disk n (c.in_ok-rises.ensures.same (ap Ok c.if-rises.false)) has

pub returns-clause-stops : goal.returns-clause-stops
returns-clause-stops g c from n has = c.taken.ensures.stops from n has
