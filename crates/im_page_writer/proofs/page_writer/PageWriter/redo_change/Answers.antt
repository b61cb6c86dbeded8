use Rattle.std.proofs.Common.{refl, ◌≤◌, ℕ, false, sym, subst, rules}
use Rattle.im_theory_log.specs.Copies.{HasCopy}
use Rattle.im_log_record.specs.Entry.{view, page_of}
use Rattle.im_log.specs.Spelled.{logged_at}
use Rattle.im_page_table.specs.KnownCopies.{redone_as}
use Rattle.im_page_writer.proofs.SyncedPages.{known_redone}
use Rattle.im_page_flush.proofs.Goings.{leaves_so_far}
use Rattle.im_page_table.proofs.Growing.{keeps_none}
use Rattle.im_page_writer.specs.Outcome.{no_page, AsksNothing}
use Rattle.im_page_writer.proofs.Outcomes.{idle_any, redo_of}
use Rattle.im_page_writer.proofs.RedoneRecords.{applies_none, redone_none}
use Rattle.im_page_writer.proofs.Writers.{goes_on_start}
use Rattle.im_page_writer.proofs.page_writer.PageWriter.redo_change.Goals as goal

pub returns-then-not-may_change-clause-outcome : goal.returns-then-not-may_change-clause-outcome
returns-then-not-may_change-clause-outcome g c = redo_of g.D.Disk {n = no_page} (λ e is. is) (idle_any g.D.Disk g.met.D.Disk.only_now {asks = AsksNothing} c.args.self.now c.args.disk.now (search rules) c.requires.ready)

pub returns-then-not-may_change-clause-kept : goal.returns-then-not-may_change-clause-kept
returns-then-not-may_change-clause-kept g c b base s newer older is over at there from ready has =
    let w = c.args.self.now in
    let old = c.args.disk.now in
    let r = logged_at c.args.lsn (view c.args.record.now) in
    let none = c.may_change.ensures c.if-not-may_change.true in
    let on = goes_on_start g.D.Disk b base s w old (g.met.D.Disk.only_now old) is in
    record {
      ok = record {
        before = s;
        keeps = keeps_none b s;
        stops = on.goes.stops;
        known = false;
        stands = record {
          working = is.working;
          known = known_redone s (redone_as false r s) w.known over refl refl refl is.known;
          writing = redone_none g.D.Disk b base s w.log w.table w.pool old is.writing over r newer older there (subst (λ (k : ℕ). k ≤ c.args.lsn) (sym at) from) ready (λ q. applies_none r q (s.pages q).page none);
        };
      };
      applied = sym (applies_none r (page_of (view c.args.record.now)) (s.pages (page_of (view c.args.record.now))).page none);
      stops = leaves_so_far g.D.Disk b base s old s w.log w.table w.pool old on.goes;
      cause = λ takes. tt;
    }

pub returns-clause-kept : goal.returns-clause-kept
returns-clause-kept g c b base s newer older is over at there from ready has =
    c.redo_on.ensures.kept b base s newer older is over at there from ready (λ known. subst (λ (n : ℕ). HasCopy s.durable n s.point) (sym c.page.ensures) (has known))
