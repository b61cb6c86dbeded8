use Rattle.std.proofs.Common.{refl, ap}
use Rattle.im_base_disk.specs.declared.count.Count.{Count}
use Rattle.im_engine.proofs.DiskReads.{still_as}
use Rattle.im_engine.proofs.copying.Engine+Mirrored+D+T.copy_piece.Goals as goal

pub returns-clause-still : goal.returns-clause-still
returns-clause-still g c =
    let r = c.next_piece.ensures.store.reads in
    still_as _ c.args.self.now _
    (record {
      reads = record {
        seen = r.seen;
        outcomes = r.outcomes;
        no_fewer = r.no_fewer;
        later = r.later;
        since = r.since;
        keeps = r.keeps;
        writes = ap (λ (n : Count). n.count) c.next_piece.ensures.store.counts.0;
        syncs = ap (λ (n : Count). n.count) c.next_piece.ensures.store.counts.1;
      };
      device = c.next_piece.ensures.store.failed;
      writer = refl;
      max_pages = refl;
      dense = refl;
      report = refl;
      txns = refl;
      locks = refl;
      failed = refl;
      stepped = refl;
      under = refl;
    })
    (λ f left. g.met.D.Disk.only_now c.args.self.now.disk.disk f left)

-- what the disk says of the piece
pub returns-clause-none : goal.returns-clause-none
returns-clause-none g c = c.next_piece.ensures.none

pub returns-clause-last : goal.returns-clause-last
returns-clause-last g c = c.next_piece.ensures.ends.last

pub returns-clause-next : goal.returns-clause-next
returns-clause-next g c = record { same = c.next_piece.ensures.ends.same; more = c.next_piece.ensures.more; gone = c.next_piece.ensures.gone }
