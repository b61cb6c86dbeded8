use Rattle.std.proofs.Common.{refl, ap}
use Rattle.im_base_disk.specs.declared.count.Count.{Count}
use Rattle.im_engine.proofs.DiskReads.{still_as, whole_copy}
use Rattle.im_engine.proofs.copying.Engine+Mirrored+D+T.end_copy.Goals as goal

pub returns-clause-still : goal.returns-clause-still
returns-clause-still g c =
    let r = c.finish.ensures.store.reads in
    still_as _ c.args.self.now _
    (record {
      reads = record {
        seen = r.seen;
        outcomes = r.outcomes;
        no_fewer = r.no_fewer;
        later = r.later;
        since = r.since;
        keeps = r.keeps;
        writes = ap (λ (n : Count). n.count) c.finish.ensures.store.counts.0;
        syncs = ap (λ (n : Count). n.count) c.finish.ensures.store.counts.1;
      };
      device = c.finish.ensures.store.failed;
      writer = refl;
      max_pages = refl;
      dense = refl;
      report = refl;
      txns = refl;
      locks = refl;
      failed = refl;
      stepped = refl;
      under = refl;
    })
    (λ f left. g.met.D.Disk.only_now c.args.self.now.disk.disk f left)

-- what the disk says of the copy
pub returns-clause-whole : goal.returns-clause-whole
returns-clause-whole g c =
    whole_copy c.finish.result _ _ _ _ c.finish.ensures.copied c.finish.ensures.synced c.finish.ensures.handed
    (λ to copied synced handed. record {
      copied = copied;
      allowed = λ before s v tells told life. life.stops (g.T.Disk.seen to) (c.finish.ensures.store.reads.outcomes (g.T.Disk.seen to) (handed.left tells told));
      synced = synced;
      working = handed.working;
      taken = handed.taken;
    })

pub returns-clause-none : goal.returns-clause-none
returns-clause-none g c = c.finish.ensures.none
