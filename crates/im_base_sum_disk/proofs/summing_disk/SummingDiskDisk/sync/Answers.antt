use Rattle.im_base_model_disk.specs.Model.{moment_of, moments_of}
use Rattle.im_base_model_disk.proofs.Moments.{elapses}
use Rattle.im_base_sum_disk.specs.Leaves.{Leaves}
use Rattle.im_base_sum_disk.proofs.Stopping.{synced_durable, synced_leaves, unsynced_leaves}
use Rattle.im_base_sum_disk.proofs.summing_disk.SummingDiskDisk.sync.Goals as goal

pub returns-clause-durable : goal.returns-clause-durable
returns-clause-durable c = synced_durable c.args.self.now.disk c.sync.new.self c.args.file c.sync.ensures.spares c.in_ok-sync.ensures.synced

pub returns-clause-crash : goal.returns-clause-crash
returns-clause-crash c = synced_leaves c.args.self.now.disk c.sync.new.self c.args.file c.sync.ensures.spares c.in_ok-sync.ensures.synced

pub returns-in_err-sync-clause-crash : goal.returns-in_err-sync-clause-crash
returns-in_err-sync-clause-crash c = unsynced_leaves c.args.self.now.disk c.sync.new.self c.args.file c.sync.ensures.spares c.in_err-sync.ensures.unsynced

pub returns-clause-time : goal.returns-clause-time
returns-clause-time c = elapses Leaves (moments_of c.args.self.now.disk) (moments_of c.sync.new.self) (moment_of c.args.self.now.disk) (moment_of c.sync.new.self) c.sync.ensures.counts.past

pub returns-in_err-sync-clause-time : goal.returns-in_err-sync-clause-time
returns-in_err-sync-clause-time c = elapses Leaves (moments_of c.args.self.now.disk) (moments_of c.sync.new.self) (moment_of c.args.self.now.disk) (moment_of c.sync.new.self) c.sync.ensures.counts.past
