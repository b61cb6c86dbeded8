use Rattle.std.proofs.Common.{◌≡◌, ◌≤◌, ◌+◌, ℕ, ap, subst, ◌∙◌, refl}
use Rattle.std.specs.Prelude.{max}
use Rattle.im_base_types.specs.Pages.{Page}
use Rattle.im_base_types.specs.Records as whats
use Rattle.im_log_record.specs.Entry.{Smo}
use Rattle.im_log.specs.Whats.{what_of}
use Rattle.im_page_pool.specs.Pool.{page_at}
use Rattle.im_page_writer.specs.Outcome.{mild, pages_of}
use Rattle.im_page_flush.proofs.Goings.{leaves_then}
use Rattle.im_page_writer.proofs.Outcomes.{changed_none, leaves_of_end, log_refused, logs_for_more, logs_then, no_page_for, out_of_memory, pages_here, pages_to, read_logs, search_of, sound_on, sound_own, stands_on}
use Rattle.im_smo_log.proofs.Records.{page_logged, smo_is, smo_leaves}
use Rattle.im_smo_log.proofs.page_record.log_page.Goals as goal

pub returns-in_err-frame-clause-outcome : goal.returns-in_err-frame-clause-outcome
returns-in_err-frame-clause-outcome g c = log_refused g.D.Disk c.from_residual.result c.from_residual.ensures.1 (read_logs g.D.Disk refl (search_of g.D.Disk c.in_err-frame.ensures.outcome))

pub returns-in_err-frame-clause-kept : goal.returns-in_err-frame-clause-kept
returns-in_err-frame-clause-kept g c b base s e is over =
    let ready = λ (q : ℕ). ((is.writing.stands.kept.pages q).run e over).0 in
    let has = pages_to g.D.Disk c.args.number (pages_here g.D.Disk b base s c.args.writer.now c.args.disk.now is ready) in
    record {
      sound = sound_on c.from_residual.result _ _ c.from_residual.ensures.1 (c.in_err-frame.ensures.kept (pages_of s) has);
      stops = leaves_of_end g.D.Disk c.in_err-frame.ensures.outcome b base s is (λ q le. ready q);
    }

pub returns-then-not-is_counted-clause-outcome : goal.returns-then-not-is_counted-clause-outcome
returns-then-not-is_counted-clause-outcome g c = changed_none g.D.Disk (λ e is. is) (out_of_memory g.D.Disk refl (search_of g.D.Disk c.in_ok-frame.ensures.outcome))

pub returns-then-not-is_counted-clause-kept : goal.returns-then-not-is_counted-clause-kept
returns-then-not-is_counted-clause-kept g c b base s e is over = record {
  sound = λ same. (let never : ⊥ = cc same in never);
  stops = leaves_of_end g.D.Disk c.in_ok-frame.ensures.outcome b base s is (λ q le. ((is.writing.stands.kept.pages q).run e over).0);
}

pub returns-clause-outcome : goal.returns-clause-outcome
returns-clause-outcome g c = logs_then g.D.Disk (search_of g.D.Disk c.in_ok-frame.ensures.outcome) (logs_for_more g.D.Disk (no_page_for mild refl) c.log_smo.ensures.outcome)

pub returns-clause-kept : goal.returns-clause-kept
returns-clause-kept g c b base s e is over =
    let ready = λ (q : ℕ). ((is.writing.stands.kept.pages q).run e over).0 in
    let old = c.args.disk.now in
    let w = c.get.new.self in
    let mid = c.get.new.disk in
    let p = c.args.number in
    let got = c.in_ok-frame.ensures.outcome.ends.goes b base s is (λ q le. ready q) in
    let shown = c.in_ok-frame.ensures.kept (pages_of s) (pages_to g.D.Disk p (pages_here g.D.Disk b base s c.args.writer.now old is ready)) in
    let before = c.copy_behind.new.room in
    let after = c.behind.result.now in
    let same : c.page-2.result.now ≡ (s.pages p).page = c.page-2.ensures.page ∙ ap (λ (n : ℕ). page_at w.pool n) c.in_ok-frame.ensures.frame ∙ shown in
    let what : what_of (Smo c.args.transaction c.args.prev p before after) ≡ whats.Smo (s.pages p).page.body c.args.after.now.body =
    smo_is c.args.transaction c.args.prev p before after c.page-2.result.now c.args.after.now c.copy_behind.ensures.page c.behind.ensures.page
    ∙ ap (λ (g : Page). whats.Smo g.body c.args.after.now.body) same in
    let page_is : c.page.result.now ≡ (s.pages p).page = c.page.ensures.page ∙ ap (λ (n : ℕ). page_at w.pool n) c.in_ok-frame.ensures.frame ∙ shown in
    let counted : p ≡ 0 → c.args.after.now.body.leftmost ≤ max (s.pages p).page.body.leftmost (c.args.highest + 1) =
    λ zeroth. subst (λ (g : Page). c.args.after.now.body.leftmost ≤ max g.body.leftmost (c.args.highest + 1)) page_is (c.is_counted.ensures.0 c.if-not-is_counted.false zeroth) in
    let kept = c.log_smo.ensures.kept b base got.now e (stands_on g.D.Disk b base s old got.now w mid got.on) (got.on.goes.keeps.redo_end ∙ over) in
    record {
      sound = sound_own c.log_smo.result _ _ kept.ok (kept.cause (smo_leaves _ (s.pages p).page.body c.args.after.now.body what))
          (λ lsn done. page_logged g.D.Disk b base s got.now c.args.transaction c.args.prev p c.args.highest before after c.args.after.now.body lsn mid c.log_smo.new.self c.log_smo.new.disk counted got.on.goes.keeps what done);
      stops = leaves_then g.D.Disk b base s old got.now w.log w.table w.pool mid got.on.goes c.log_smo.new.disk kept.stops;
    }
