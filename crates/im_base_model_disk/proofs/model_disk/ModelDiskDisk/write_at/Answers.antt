use Rattle.im_base_model_disk.specs.Past.{LeavesAt}
use Rattle.im_base_model_disk.proofs.Moments.{elapses}
use Rattle.im_base_model_disk.proofs.Synced.{same_seen}
use Rattle.im_base_model_disk.proofs.model_disk.ModelDiskDisk.write_at.Goals as goal

pub returns-then-self-clause-time : goal.returns-then-self-clause-time
returns-then-self-clause-time c = elapses LeavesAt c.args.self.now.past.moments c.with-self.result.moments (c.args.self.now.log, c.args.self.now.pages, c.args.self.now.log2) (c.write_either-outcome.new.log, c.write_either-outcome.new.pages, c.write_either-outcome.new.log2) c.with-self.ensures

pub returns-clause-time : goal.returns-clause-time
returns-clause-time c = elapses LeavesAt c.args.self.now.past.moments c.with-self.result.moments (c.args.self.now.log, c.args.self.now.pages, c.args.self.now.log2) (c.write_either-outcome.new.log, c.write_either-outcome.new.pages, c.write_either-outcome.new.log2) c.with-self.ensures

pub returns-then-self-clause-others : goal.returns-then-self-clause-others
returns-then-self-clause-others c other ne = same_seen c.args.self.now.log c.args.self.now.pages c.args.self.now.log2 c.write_either-outcome.new.log c.write_either-outcome.new.pages c.write_either-outcome.new.log2 other (c.write_either-outcome.ensures.others other ne)

pub returns-clause-others : goal.returns-clause-others
returns-clause-others c other ne = same_seen c.args.self.now.log c.args.self.now.pages c.args.self.now.log2 c.write_either-outcome.new.log c.write_either-outcome.new.pages c.write_either-outcome.new.log2 other (c.write_either-outcome.ensures.others other ne)
