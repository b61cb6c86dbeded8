use Rattle.std.proofs.Common.{inr, refl, rules}
use Rattle.im_theory_log.specs.WriterSteps.{appended}
use Rattle.im_log_record.specs.Entry.{view}
use Rattle.im_log.specs.Spelled.{logged_at}
use Rattle.im_page_table.proofs.DurableCopies.{durable_joined}
use Rattle.im_page_writer.proofs.SyncedPages.{known_more}
use Rattle.im_page_file.proofs.Standing.{log_stops}
use Rattle.im_page_writer.proofs.Logging.{logged_high, logged_only}
use Rattle.im_base_disk.proofs.Costs.{most_none}
use Rattle.im_page_writer.proofs.LogCalls.{append_only, log_broke}
use Rattle.im_page_writer.proofs.page_writer.PageWriter.log_only.Goals as goal

pub returns-in_err-lsn-clause-kept : goal.returns-in_err-lsn-clause-kept
returns-in_err-lsn-clause-kept g c b base s e is over plain =
    let w = c.args.self.now in
    let k = c.in_err-lsn.ensures.kept base s.log s.durable is.writing.stands.log_is in
    record { ok = search rules; stops = log_stops g.D.Disk b base s w.log w.table c.args.disk.now is.writing.stands c.append.new.disk k.stops }

pub returns-clause-kept : goal.returns-clause-kept
returns-clause-kept g c b base s e is over plain =
    let w = c.args.self.now in
    let k = c.in_ok-lsn.ensures.kept base s.log s.durable is.writing.stands.log_is in
    let entry = view c.args.record.now in
    record {
      ok = record {
        durable = k.ok.now_durable;
        grows = k.ok.grows;
        stands =
            let r = logged_at c.in_ok-lsn.lsn entry in
            let t = record (appended r s) { durable = k.ok.now_durable } in
            let writing = logged_only g.D.Disk b base s e w.log c.append.new.self w.table w.pool c.args.disk.now c.append.new.disk entry c.in_ok-lsn.lsn is.writing over plain k.ok c.append.ensures.outcome.ready c.append.ensures.outcome.changes in
            record {
              working = refl;
              known = known_more r s t w.known refl refl refl plain.point (durable_joined b r s t writing.stands.kept refl refl plain.point k.ok.grows (λ p known. inr (known, refl))) is.known;
              writing = writing;
            };
        high = logged_high g.D.Disk b base s e w.log c.append.new.self w.table w.pool c.args.disk.now c.append.new.disk entry c.in_ok-lsn.lsn is.writing over plain k.ok;
      };
      stops = log_stops g.D.Disk b base s w.log w.table c.args.disk.now is.writing.stands c.append.new.disk k.stops;
    }

pub returns-then-self-clause-few : goal.returns-then-self-clause-few
returns-then-self-clause-few g c = most_none g.D.Disk 2 2 c.args.disk.now

pub returns-in_err-lsn-clause-outcome : goal.returns-in_err-lsn-clause-outcome
returns-in_err-lsn-clause-outcome g c =
    log_broke g.D.Disk c.from_residual.result c.from_residual.ensures.1 (append_only _) c.if-self.false refl (c.requires.ready.works c.if-self.false) c.in_err-lsn.ensures.outcome (search rules) refl
