use Rattle.std.proofs.Common.{◌≡◌, ◌<◌, ◌≤◌, ◌++◌, ℕ, false, true, sym, ◌∙◌, ap, subst, arith, rules, refl}
use Rattle.std.specs.Prelude.{is_some}
use Rattle.im_base_types.specs.Pages.{Page}
use Rattle.im_theory_log.specs.WriterSteps.{applies}
use Rattle.im_log_record.specs.Entry.{view, page_of}
use Rattle.im_log.specs.Spelled.{logged_at}
use Rattle.im_page_pool.specs.Pool.{held_of, page_at}
use Rattle.im_page_table.specs.KnownCopies.{redone_as}
use Rattle.im_page_writer.proofs.SyncedPages.{known_redone}
use Rattle.im_page_flush.proofs.Goings.{leaves_so_far}
use Rattle.im_page_writer.specs.Outcome.{pages_of}
use Rattle.im_page_writer.proofs.LoggedChanges.{at_held, err_on}
use Rattle.im_page_writer.proofs.Outcomes.{no_page_for, leaves_of_end, pages_as, redo_of, redo_refused, redo_then}
use Rattle.im_page_writer.proofs.RedoneRecords.{applied_already, copy_still, ready_still, redo_kept_then, redone_none, there_still}
use Rattle.im_page_writer.proofs.page_writer.PageWriter.redo_on.Goals as goal

pub returns-in_err-frame-clause-outcome : goal.returns-in_err-frame-clause-outcome
returns-in_err-frame-clause-outcome g c = redo_refused g.D.Disk c.from_residual.result c.from_residual.ensures.1 (redo_of g.D.Disk (no_page_for _ refl) c.in_err-frame.ensures.outcome)

pub returns-in_err-frame-clause-kept : goal.returns-in_err-frame-clause-kept
returns-in_err-frame-clause-kept g c b base s newer older is over at there from ready has =
    let loaded = λ (q : ℕ) (le : _). (ready q).0 in
    record {
      ok = search rules;
      applied = search rules;
      stops = leaves_of_end g.D.Disk c.in_err-frame.ensures.outcome b base s is loaded;
      cause = λ takes. err_on c.from_residual.result c.in_err-frame.field-0.0 _ c.from_residual.ensures.1 (c.in_err-frame.ensures.kept (pages_of s) (pages_as g.D.Disk b base s c.args.self.now c.args.disk.now is loaded));
    }

pub redo_with_room-requires-clause-held : goal.redo_with_room-requires-clause-held
redo_with_room-requires-clause-held g c =
    let mid = c.get.new.self in
    let frame = c.in_ok-frame.frame in
    subst (λ (n : ℕ). is_some (held_of mid.pool n) ≡ true) c.in_ok-frame.ensures.frame (at_held (held_of mid.pool frame.number) frame.place c.in_ok-frame.ensures.at)

pub returns-then-lsn-clause-outcome : goal.returns-then-lsn-clause-outcome
returns-then-lsn-clause-outcome g c = redo_of g.D.Disk (no_page_for _ refl) c.in_ok-frame.ensures.outcome

pub returns-clause-outcome : goal.returns-clause-outcome
returns-clause-outcome g c = redo_then g.D.Disk (redo_of g.D.Disk (no_page_for _ refl) c.in_ok-frame.ensures.outcome) c.redo_with_room.ensures.outcome

pub returns-then-lsn-clause-kept : goal.returns-then-lsn-clause-kept
returns-then-lsn-clause-kept g c b base s newer older is over at there from ready has =
    let got = c.in_ok-frame.ensures.outcome.ends.goes b base s is (λ q le. (ready q).0) in
    let shown = c.in_ok-frame.ensures.kept (pages_of s) (pages_as g.D.Disk b base s c.args.self.now c.args.disk.now is (λ q le. (ready q).0)) in
    let t = got.now in
    let mid = c.get.new.self in
    let disk = c.get.new.disk in
    let keeps = got.on.goes.keeps in
    let r = logged_at c.args.lsn (view c.args.record.now) in
    let n = c.args.number in
    let lsn_is : c.lsn.result ≡ (s.pages n).page.lsn = c.lsn.ensures ∙ ap (λ (g : Page). g.lsn) (c.page.ensures.page ∙ ap (λ (k : ℕ). page_at mid.pool k) c.in_ok-frame.ensures.frame ∙ shown) in
    let has : (q : ℕ) → page_of (view c.args.record.now) ≡ q → c.args.lsn ≤ (s.pages q).page.lsn = λ q here.
    let e : (s.pages n).page.lsn ≡ (s.pages q).page.lsn = ap (λ (k : ℕ). (s.pages k).page.lsn) (sym c.requires.page ∙ here) in
    let le : c.args.lsn ≤ c.lsn.result = c.if-lsn.true in
    omega (arith, le, lsn_is, e) in
    let none : (q : ℕ) → applies r q (s.pages q).page ≡ false = λ q. applied_already r q (s.pages q).page (has q) in
    record {
      ok = record {
        before = t;
        keeps = keeps;
        stops = got.on.goes.stops;
        known = false;
        stands = record {
          working = got.on.working;
          known = known_redone t (redone_as false r t) mid.known (keeps.redo_end ∙ over) refl refl refl got.on.known;
          writing = redone_none g.D.Disk b base t mid.log mid.table mid.pool disk got.on.goes.writing (keeps.redo_end ∙ over) r (keeps.durable.newer ++ newer) older (there_still b s t keeps r newer older there)
              (subst (λ (k : ℕ). k ≤ c.args.lsn) (sym (keeps.point ∙ at)) from) (ready_still b s t keeps r newer older ready)
              (λ q. subst (λ (g : Page). applies r q g ≡ false) (sym (keeps.pages q).page) (none q));
        };
      };
      applied = sym (none (page_of (view c.args.record.now)));
      stops = leaves_so_far g.D.Disk b base s c.args.disk.now t mid.log mid.table mid.pool disk got.on.goes;
      cause = λ takes. tt;
    }

pub returns-clause-kept : goal.returns-clause-kept
returns-clause-kept g c b base s newer older is over at there from ready has =
    let got = c.in_ok-frame.ensures.outcome.ends.goes b base s is (λ q le. (ready q).0) in
    let shown = c.in_ok-frame.ensures.kept (pages_of s) (pages_as g.D.Disk b base s c.args.self.now c.args.disk.now is (λ q le. (ready q).0)) in
    let t = got.now in
    let mid = c.get.new.self in
    let disk = c.get.new.disk in
    let keeps = got.on.goes.keeps in
    let r = logged_at c.args.lsn (view c.args.record.now) in
    let n = c.args.number in
    let lsn_is : c.lsn.result ≡ (t.pages n).page.lsn = c.lsn.ensures ∙ ap (λ (g : Page). g.lsn) (c.page.ensures.page ∙ ap (λ (k : ℕ). page_at mid.pool k) c.in_ok-frame.ensures.frame ∙ shown ∙ sym (keeps.pages n).page) in
    let lt : c.lsn.result < c.args.lsn = c.if-lsn.false in
    redo_kept_then g.D.Disk b base s r c.args.disk.now t mid.log mid.table mid.pool disk got.on.goes c.redo_with_room.new.self c.redo_with_room.new.disk c.redo_with_room.result
    (c.redo_with_room.ensures.kept b base t (keeps.durable.newer ++ newer) older (record { working = got.on.working; writing = got.on.goes.writing; known = got.on.known }) (keeps.redo_end ∙ over) (keeps.point ∙ at) (there_still b s t keeps r newer older there)
    from (ready_still b s t keeps r newer older ready) (omega (arith, lt, lsn_is)) (λ yes_copied. copy_still b s t keeps n (has yes_copied)))
