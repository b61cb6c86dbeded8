use Rattle.std.proofs.Common.{rules}
use Rattle.im_store.proofs.Ended.{broken_end, made_end, refused_end}
use Rattle.im_store.proofs.open_store.OpenStore.close.Goals as goal

pub returns-then-failed : goal.returns-then-failed
returns-then-failed g c = broken_end g.D.Disk g.met.D.Disk.only_now c.args.self c.into_disk.result (search rules) c.into_disk.ensures

pub returns-in-Ok : goal.returns-in-Ok
returns-in-Ok g c =
    let end = c.close-synced.ensures in
    made_end g.D.Disk c.args.self c.end-ended.new.self.engine c.close-synced.result.0 c.close-synced.result.1 (search rules) c.end-ended.ensures.kept c.in-Ok.ensures.made
    (record { seen = end.seen; outcomes = end.outcomes; stops = end.stops; synced = end.synced; causes = end.causes })

pub returns-in-Err : goal.returns-in-Err
returns-in-Err g c =
    let end = c.close-synced.ensures in
    refused_end g.D.Disk c.args.self c.end-ended.new.self.engine c.in-Err.fault c.close-synced.result.0 c.close-synced.result.1 (search rules) c.end-ended.ensures.kept c.in-Err.ensures.refused
    (record { seen = end.seen; outcomes = end.outcomes; stops = end.stops; synced = end.synced; causes = end.causes })
