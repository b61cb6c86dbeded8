use Rattle.im_tool.proofs.RisingLoads.{left_or_none, load_of}
use Rattle.im_tool.proofs.rising.ended.Goals as goal

pub returns-in-Ok-clause-loaded : goal.returns-in-Ok-clause-loaded
returns-in-Ok-clause-loaded g c from has told =
    load_of g.D.Disk (g.D.Disk.seen c.finish.new.disk) c.args.risen.count has.entries has.many (c.in-Ok.ensures.loaded from has.entries has.loading told)

pub returns-in-Ok-clause-stops : goal.returns-in-Ok-clause-stops
returns-in-Ok-clause-stops g c from has = left_or_none g.D.Disk from c.finish.new.disk has.entries (c.finish.ensures.stops from has.entries has.loading)

pub returns-in-Err-clause-stops : goal.returns-in-Err-clause-stops
returns-in-Err-clause-stops g c from has = left_or_none g.D.Disk from c.finish.new.disk has.entries (c.finish.ensures.stops from has.entries has.loading)
