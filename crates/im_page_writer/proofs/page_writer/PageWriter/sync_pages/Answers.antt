use Rattle.std.proofs.Common.{refl, rules, arith}
use Rattle.im_theory_log.specs.WriterSteps.{synced}
use Rattle.im_page_table.proofs.DurableCopies.{durable_synced}
use Rattle.im_page_writer.proofs.SyncedPages.{known_same}
use Rattle.im_page_flush.proofs.Placing.{pooled_synced, synced_keeps}
use Rattle.im_base_disk.proofs.Costs.{most_none, most_of}
use Rattle.im_page_writer.proofs.page_writer.PageWriter.sync_pages.Goals as goal

pub returns-in_err-sync_pages-clause-kept : goal.returns-in_err-sync_pages-clause-kept
returns-in_err-sync_pages-clause-kept g c b base s is = record { ok = search rules; stops = (c.in_err-sync_pages.ensures.kept b base s c.args.self.now.log is.writing.stands).stops }

pub returns-clause-kept : goal.returns-clause-kept
returns-clause-kept g c b base s is =
    let w = c.args.self.now in
    let k = c.in_ok-sync_pages.ensures.kept b base s w.log is.writing.stands in
    record {
      ok = record {
        working = refl;
        known = known_same s (synced s) w.known refl refl refl (durable_synced s) is.known;
        goes = record {
          writing = record { stands = k.ok.stands; entries = k.ok.entries; pooled = pooled_synced w.pool s.pages is.writing.pooled; based = is.writing.based };
          stops = k.stops;
          keeps = synced_keeps b s;
        };
      };
      stops = k.stops;
    }

pub returns-then-self-clause-few : goal.returns-then-self-clause-few
returns-then-self-clause-few g c = most_none g.D.Disk 0 1 c.args.disk.now

pub returns-in_err-sync_pages-clause-few : goal.returns-in_err-sync_pages-clause-few
returns-in_err-sync_pages-clause-few g c = most_of g.D.Disk 0 1 0 1 c.args.disk.now c.sync_pages.new.disk (omega arith) (omega arith) c.sync_pages.ensures.costs

pub returns-clause-few : goal.returns-clause-few
returns-clause-few g c = most_of g.D.Disk 0 1 0 1 c.args.disk.now c.sync_pages.new.disk (omega arith) (omega arith) c.sync_pages.ensures.costs
