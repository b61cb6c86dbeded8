use Rattle.im_base_model_disk.specs.Past.{LeavesAt}
use Rattle.im_base_model_disk.proofs.Moments.{elapses}
use Rattle.im_base_model_disk.proofs.model_disk.ModelDiskDisk.sync.Goals as goal

pub returns-clause-time : goal.returns-clause-time
returns-clause-time c = elapses LeavesAt c.args.self.now.past.moments c.with-self.result.moments (c.args.self.now.log, c.args.self.now.pages, c.args.self.now.log2) (c.sync_either.new.log, c.sync_either.new.pages, c.sync_either.new.log2) c.with-self.ensures

pub returns-then-self-clause-time : goal.returns-then-self-clause-time
returns-then-self-clause-time c = elapses LeavesAt c.args.self.now.past.moments c.with-self.result.moments (c.args.self.now.log, c.args.self.now.pages, c.args.self.now.log2) (c.args.self.now.log, c.args.self.now.pages, c.args.self.now.log2) c.with-self.ensures
