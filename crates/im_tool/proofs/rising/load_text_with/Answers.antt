use Rattle.im_tool.proofs.RisingLoads.{half_now, half_or_none}
use Rattle.im_tool.proofs.rising.load_text_with.Goals as goal

pub returns-in_err-why-clause-stops : goal.returns-in_err-why-clause-stops
returns-in_err-why-clause-stops g c from goes = half_or_none g.D.Disk from c.args.disk.now (half_now g.D.Disk from c.args.loader c.args.disk.now _ goes)

pub returns-in-Some-clause-stops : goal.returns-in-Some-clause-stops
returns-in-Some-clause-stops g c from goes = half_or_none g.D.Disk from c.args.disk.now (half_now g.D.Disk from c.args.loader c.args.disk.now _ goes)

pub returns-in_err-risen-clause-stops : goal.returns-in_err-risen-clause-stops
returns-in_err-risen-clause-stops g c from goes = half_or_none g.D.Disk from c.take_all.new.disk (c.take_all.ensures.stops from goes)

pub returns-clause-loaded : goal.returns-clause-loaded
returns-clause-loaded g c from goes = c.ended.ensures.loaded from (c.in_ok-risen.ensures.risen from goes)

pub returns-clause-stops : goal.returns-clause-stops
returns-clause-stops g c from goes = c.ended.ensures.stops from (c.in_ok-risen.ensures.risen from goes)
