use Rattle.std.proofs.Common.{◌≡◌, true, refl, ap, subst, arith, rules}
use Rattle.im_theory_log.specs.Histories.{page_after}
use Rattle.im_base_types.specs.Pages.{Page}
use Rattle.im_theory_log.specs.WriterSteps.{changed, holds_copy}
use Rattle.im_log_record.specs.Entry.{view}
use Rattle.im_log.specs.Spelled.{logged_at}
use Rattle.im_log.specs.Whats.{what_of}
use Rattle.im_page_pool.specs.Pool.{held_of, Sets}
use Rattle.im_page_file.proofs.Standing.{log_stops}
use Rattle.im_page_writer.proofs.LoggedChanges.{at_held, err_on}
use Rattle.im_page_table.proofs.DurableCopies.{durable_changed}
use Rattle.im_page_writer.proofs.SyncedPages.{known_more}
use Rattle.im_page_writer.proofs.Outcomes.{same_logs}
use Rattle.im_page_writer.proofs.Structure.{leaves_body, left_by}
use Rattle.im_page_writer.proofs.Writers.{goes_on_start}
use Rattle.im_page_writer.proofs.LogCalls.{append_only, append_sound, log_broke}
use Rattle.im_page_writer.proofs.page_writer.PageWriter.after_logged.Goals as goal

pub returns-then-not-read_after-clause-outcome : goal.returns-then-not-read_after-clause-outcome
returns-then-not-read_after-clause-outcome g c = same_logs g.D.Disk g.met.D.Disk.only_now c.requires.working c.requires.working (search rules) refl refl refl refl

pub returns-then-not-read_after-clause-kept : goal.returns-then-not-read_after-clause-kept
returns-then-not-read_after-clause-kept g c b base s e is over =
    let w = c.args.self.now in
    let old = c.args.disk.now in
    let on = goes_on_start g.D.Disk b base s w old (g.met.D.Disk.only_now old) is in
    record { logged = record { ok = tt; stops = on.goes.stops }; again = λ same. record { working = is.working; writing = is.writing; known = is.known } }

pub returns-in_err-lsn-clause-kept : goal.returns-in_err-lsn-clause-kept
returns-in_err-lsn-clause-kept g c b base s e is over =
    let w = c.args.self.now in
    let k = c.in_err-lsn.ensures.kept base s.log s.durable is.writing.stands.log_is in
    record { logged = record { ok = search rules; stops = log_stops g.D.Disk b base s w.log w.table c.args.disk.now is.writing.stands c.append.new.disk k.stops }; again = err_on c.from_residual.result c.in_err-lsn.field-0.0 _ c.from_residual.ensures.1 (λ same. absurd (append_sound g.D.Disk c.in_err-lsn.ensures.outcome same)) }

pub returns-clause-kept : goal.returns-clause-kept
returns-clause-kept g c b base s e is over =
    let w = c.args.self.now in
    let frame = c.args.frame in
    let lsn = c.in_ok-lsn.lsn in
    let entry = view c.args.record.now in
    let k = c.in_ok-lsn.ensures.kept base s.log s.durable is.writing.stands.log_is in
    let sets : Sets frame (record { lsn = lsn; body = c.read_after.new.page.body }) true w.pool c.set_page.new.pool = subst (λ (p : Page). Sets frame (record { lsn = lsn; body = p.body }) true w.pool c.set_page.new.pool) c.deref.ensures c.set_page.ensures in
    record {
      again = tt;
      logged = record {
        ok = record {
          durable = k.ok.now_durable;
          grows = k.ok.grows;
          known = holds_copy (what_of entry);
          stands =
              let r = logged_at lsn entry in
              let leaves = leaves_body lsn (what_of entry) c.read_after.new.page.body (c.read_after.ensures.is c.if-not-read_after.false) in
              let writing = left_by g.D.Disk b base s e w.log c.append.new.self w.table c.enter.new.self w.pool c.set_page.new.pool c.args.disk.now c.append.new.disk (view c.args.record.now) lsn frame is.writing over c.read_after.new.page.body
              (c.read_after.ensures.is c.if-not-read_after.false) k.ok c.requires.page c.append.ensures.outcome.ready c.append.ensures.outcome.changes (at_held (held_of w.pool frame.number) frame.place c.requires.at) sets c.enter.ensures.entry in
              record {
                working = refl;
                known = known_more r s (record (changed r s) { durable = k.ok.now_durable }) w.known refl refl refl leaves.point
                    (durable_changed b r s (holds_copy (what_of entry)) k.ok.now_durable writing.stands.kept leaves.point k.ok.grows (λ page. let is : (page_after lsn (what_of entry) page).lsn ≡ lsn = ap (λ (x : Page). x.lsn) (leaves.after page) in omega (arith, is))) is.known;
                writing = writing;
              };
          high = k.ok.rises b is.writing.based;
        };
        stops = log_stops g.D.Disk b base s w.log w.table c.args.disk.now is.writing.stands c.append.new.disk k.stops;
      };
    }

pub returns-in_err-lsn-clause-outcome : goal.returns-in_err-lsn-clause-outcome
returns-in_err-lsn-clause-outcome g c =
    log_broke g.D.Disk c.from_residual.result c.from_residual.ensures.1 (append_only _) c.requires.working refl (c.requires.ready.works c.requires.working) c.in_err-lsn.ensures.outcome (search rules) refl
