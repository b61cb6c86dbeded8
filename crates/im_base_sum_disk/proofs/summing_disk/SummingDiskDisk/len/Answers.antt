use Rattle.im_base_sum_disk.proofs.Stopping.{leaves_back, leaves_on, since_back, since_on, no_sooner}
use Rattle.im_base_sum_disk.proofs.summing_disk.SummingDiskDisk.len.Goals as goal

pub returns-clause-reads : goal.returns-clause-reads
returns-clause-reads c =
    let counts = c.len.ensures.counts in
    record {
      seen = c.len.ensures.reads.seen;
      outcomes = leaves_back c.args.self.now.disk c.len.new.self counts.files counts.past;
      no_fewer = leaves_on c.args.self.now.disk c.len.new.self counts.files counts.past;
      later = no_sooner c.args.self.now.disk c.len.new.self counts.files counts.past;
      since = λ t f le left. since_back c.args.self.now.disk c.len.new.self counts.files counts.past t f left;
      keeps = λ t f le left. since_on c.args.self.now.disk c.len.new.self counts.files counts.past t f left;
      writes = c.len.ensures.reads.writes;
      syncs = c.len.ensures.reads.syncs;
    }
