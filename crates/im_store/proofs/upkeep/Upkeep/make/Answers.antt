use Rattle.im_store.proofs.Keeping.{noted_by}
use Rattle.im_store.proofs.upkeep.Upkeep.make.Goals as goal

pub returns-clause-noted : goal.returns-clause-noted
returns-clause-noted g c = noted_by g.D.Disk c.args.step.now c.step.result c.args.self.now c.step.new.self c.args.engine.now c.step.new.engine c.step.ensures.made c.step.ensures.noted
