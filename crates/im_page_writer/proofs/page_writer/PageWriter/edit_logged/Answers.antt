use Rattle.std.proofs.Common.{◌≡◌, ◌≤◌, arith, ℕ, Option, None, refl, sym, ap, subst, ◌∙◌, true, rules}
use Rattle.im_base_types.specs.Pages.{Page}
use Rattle.im_theory_log.specs.Histories.{page_after}
use Rattle.im_log_record.specs.Entry.{view}
use Rattle.im_theory_page.specs.Header.{initial}
use Rattle.im_log.specs.Spelled.{logged_at}
use Rattle.im_log.specs.Whats.{what_of}
use Rattle.im_page_pool.specs.Pool.{held_of, Sets}
use Rattle.im_page_table.specs.KnownCopies.{changed_as, IsAtOrAfter}
use Rattle.im_page_writer.specs.Synced.{IsKnown}
use Rattle.im_page.specs.LeafEdits.{edit_of}
use Rattle.im_page_table.proofs.DurableCopies.{durable_changed}
use Rattle.im_page_writer.proofs.SyncedPages.{known_first}
use Rattle.im_page_file.proofs.Standing.{log_stops}
use Rattle.im_page_writer.proofs.Changing.{changed_by, like_names}
use Rattle.im_page_writer.proofs.LeafChanges.{edit_gives, edit_lsn}
use Rattle.im_page_writer.proofs.LoggedChanges.{at_held, at_shows}
use Rattle.im_page_writer.proofs.LogCalls.{append_only, log_broke}
use Rattle.im_page_writer.proofs.page_writer.PageWriter.edit_logged.Goals as goal

pub returns-in_err-lsn-clause-kept : goal.returns-in_err-lsn-clause-kept
returns-in_err-lsn-clause-kept g c b base s e is over =
    let w = c.args.self.now in
    let k = c.in_err-lsn.ensures.kept base s.log s.durable is.writing.stands.log_is in
    record { ok = search rules; stops = log_stops g.D.Disk b base s w.log w.table c.args.disk.now is.writing.stands c.append.new.disk k.stops }

pub returns-clause-kept : goal.returns-clause-kept
returns-clause-kept g c b base s e is over =
    let w = c.args.self.now in
    let frame = c.args.frame in
    let lsn = c.in_ok-lsn.lsn in
    let k = c.in_ok-lsn.ensures.kept base s.log s.durable is.writing.stands.log_is in
    let shows = at_shows (held_of w.pool frame.number) frame.place (s.pages frame.number) (initial 0) c.requires.at (is.writing.pooled.shows frame.number) in
    let made = ap (λ (g : Page). page_after lsn (edit_of c.args.edit c.args.key.now c.args.rid) g) shows ∙ sym (c.requires.what.after lsn (s.pages frame.number).page) in
    let sets = subst (λ (p : Page). Sets frame p true w.pool c.edit_key.new.pool) made c.edit_key.ensures in
    let has_copy : c.is_known-known.result ≡ true → ((s.pages frame.number).entry ≡ None) × IsAtOrAfter w.known.from (s.pages frame.number).page.lsn =
    λ t. (sym (is.writing.entries frame.number) ∙ c.is_known-known.ensures.none t, subst (λ (p : Page). IsAtOrAfter w.known.from p.lsn) shows (c.is_known-known.ensures.late t)) in
    record {
      ok = record {
        durable = k.ok.now_durable;
        grows = k.ok.grows;
        known = c.is_known-known.result;
        stands =
            let r = logged_at lsn (view c.args.record.now) in
            let t = record (changed_as c.is_known-known.result r s) { durable = k.ok.now_durable } in
            let writing = changed_by g.D.Disk b base s e w.log c.append.new.self w.table c.enter.new.self w.pool c.edit_key.new.pool c.args.disk.now c.append.new.disk (view c.args.record.now) lsn frame is.writing over (c.requires.what.copy lsn)
            c.requires.what.point (like_names (what_of (view c.args.record.now)) (edit_of c.args.edit c.args.key.now c.args.rid) (edit_gives c.args.edit c.args.key.now c.args.rid) c.requires.what.after) k.ok c.requires.page c.is_known-known.result w.known.from is.known.from has_copy c.append.ensures.outcome.ready c.append.ensures.outcome.changes (at_held (held_of w.pool frame.number) frame.place c.requires.at) sets c.enter.ensures.entry in
            let gives = λ (page : Page). let is : (page_after lsn (what_of (view c.args.record.now)) page).lsn ≡ lsn = ap (λ (x : Page). x.lsn) (c.requires.what.after lsn page) ∙ edit_lsn lsn c.args.edit c.args.key.now c.args.rid page in (let low : lsn ≤ (page_after lsn (what_of (view c.args.record.now)) page).lsn = omega (arith, is) in low) in
            record {
              working = refl;
              known = subst (λ (o : Option ℕ). IsKnown (record (changed_as c.is_known-known.result (logged_at lsn (view c.args.record.now)) s) { durable = k.ok.now_durable }) (record w.known { from = o })) (sym c.first_of-self.ensures)
                  (known_first b (logged_at lsn (view c.args.record.now)) s (record (changed_as c.is_known-known.result (logged_at lsn (view c.args.record.now)) s) { durable = k.ok.now_durable }) e w.known is.writing.stands.kept over refl refl refl c.requires.what.point (k.ok.rises b is.writing.based) (durable_changed b r s c.is_known-known.result k.ok.now_durable writing.stands.kept c.requires.what.point k.ok.grows gives) is.known);
              writing = writing;
            };
        high = k.ok.rises b is.writing.based;
      };
      stops = log_stops g.D.Disk b base s w.log w.table c.args.disk.now is.writing.stands c.append.new.disk k.stops;
    }

pub returns-in_err-lsn-clause-outcome : goal.returns-in_err-lsn-clause-outcome
returns-in_err-lsn-clause-outcome g c =
    log_broke g.D.Disk c.from_residual.result c.from_residual.ensures.1 (append_only _) c.requires.working refl (c.requires.ready.works c.requires.working) c.in_err-lsn.ensures.outcome (search rules) refl
