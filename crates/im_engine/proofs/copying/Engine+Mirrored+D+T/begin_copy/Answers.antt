use Rattle.std.proofs.Common.{refl, ap}
use Rattle.im_base_disk.specs.declared.count.Count.{Count}
use Rattle.im_engine.proofs.DiskReads.{same_reads, still_as}
use Rattle.im_engine.proofs.copying.Engine+Mirrored+D+T.begin_copy.Goals as goal

pub returns-clause-still : goal.returns-clause-still
returns-clause-still g c =
    let r = same_reads g.D.Disk c.args.self.now.disk.disk c.begin.new.self.disk c.begin.ensures.disk in
    still_as _ c.args.self.now _
    (record {
      reads = record {
        seen = r.seen;
        outcomes = r.outcomes;
        no_fewer = r.no_fewer;
        later = r.later;
        since = r.since;
        keeps = r.keeps;
        writes = ap (λ (n : Count). n.count) c.begin.ensures.counts.0;
        syncs = ap (λ (n : Count). n.count) c.begin.ensures.counts.1;
      };
      device = c.begin.ensures.failed;
      writer = refl;
      max_pages = refl;
      dense = refl;
      report = refl;
      txns = refl;
      locks = refl;
      failed = refl;
      stepped = refl;
      under = refl;
    })
    (λ f left. g.met.D.Disk.only_now c.args.self.now.disk.disk f left)
