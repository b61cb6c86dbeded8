use Rattle.im_base_model_disk.specs.Model.{moment_of, moments_of}
use Rattle.im_base_model_disk.proofs.Moments.{elapses}
use Rattle.im_base_sum_disk.specs.Leaves.{Leaves}
use Rattle.im_base_sum_disk.proofs.Stopping.{written_follows, torn_follows, place_in, how_it_ended}
use Rattle.im_base_sum_disk.proofs.summing_disk.SummingDiskDisk.write_at.Goals as goal

pub returns-clause-unforged : goal.returns-clause-unforged
returns-clause-unforged c sums =
    written_follows c.args.self.now.disk c.write_at.new.self c.args.file c.write_at.ensures.spares c.args.at c.args.bytes.now (place_in c.args.self.now.disk c.args.file c.args.at (c.requires.place tt)) (how_it_ended _ _ c.args.at c.args.bytes.now _ _ c.write_at.ensures.ends)

pub returns-clause-crash : goal.returns-clause-crash
returns-clause-crash c =
    torn_follows c.args.file c.args.at c.args.bytes.now (Leaves (moment_of c.args.self.now.disk)) (Leaves (moment_of c.write_at.new.self))
    (written_follows c.args.self.now.disk c.write_at.new.self c.args.file c.write_at.ensures.spares c.args.at c.args.bytes.now (place_in c.args.self.now.disk c.args.file c.args.at (c.requires.place tt)) (how_it_ended _ _ c.args.at c.args.bytes.now _ _ c.write_at.ensures.ends))

pub returns-clause-time : goal.returns-clause-time
returns-clause-time c = elapses Leaves (moments_of c.args.self.now.disk) (moments_of c.write_at.new.self) (moment_of c.args.self.now.disk) (moment_of c.write_at.new.self) c.write_at.ensures.counts.past
