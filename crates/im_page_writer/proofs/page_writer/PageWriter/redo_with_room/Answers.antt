use Rattle.std.proofs.Common.{◌≡◌, ◌<◌, ◌≤◌, ◌++◌, ℕ, length, true, refl, sym, ◌∙◌, ap, subst, rules}
use Rattle.im_base_types.specs.Pages.{Page}
use Rattle.im_page_pool.specs.Pool.{held_of}
use Rattle.im_theory_log.specs.Copies.{HasCopy}
use Rattle.im_theory_log.specs.WriterSteps.{applies}
use Rattle.im_log_record.specs.Entry.{view, page_of}
use Rattle.im_log.specs.Spelled.{logged_at}
use Rattle.im_page_table.specs.KnownCopies.{redone_as}
use Rattle.im_page_writer.specs.Synced.{IsKnown}
use Rattle.im_page_writer.specs.declared.known.Known.{Known}
use Rattle.im_page_rounds.specs.OnePage.{PageTakes}
use Rattle.im_page_rounds.proofs.OnePage.{applies_below as applies_is}
use Rattle.im_page_writer.proofs.SyncedPages.{known_redone}
use Rattle.im_page_flush.proofs.Goings.{leaves_so_far}
use Rattle.im_page_table.proofs.Growing.{if_ok}
use Rattle.im_page_writer.proofs.LoggedChanges.{err_on}
use Rattle.im_page_writer.proofs.Outcomes.{flush_sound, leaves_of_end, none_mildly, redo_of, redo_own, redo_refused}
use Rattle.im_page_writer.proofs.Redoing.{has_taker, not_no_store}
use Rattle.im_page_writer.proofs.RedoneRecords.{copy_still, on_of, redone_here, ready_still, taker_there, there_still}
use Rattle.im_page_writer.proofs.page_writer.PageWriter.redo_with_room.Goals as goal

pub returns-in_err-make_entry_room-clause-outcome : goal.returns-in_err-make_entry_room-clause-outcome
returns-in_err-make_entry_room-clause-outcome g c = redo_refused g.D.Disk c.from_residual.result c.from_residual.ensures.1 (redo_of g.D.Disk (none_mildly _) c.in_err-make_entry_room.ensures.outcome)

pub returns-in_err-make_entry_room-clause-kept : goal.returns-in_err-make_entry_room-clause-kept
returns-in_err-make_entry_room-clause-kept g c b base s newer older is over at there from ready below has = record {
  ok = search rules;
  applied = search rules;
  stops = leaves_of_end g.D.Disk c.in_err-make_entry_room.ensures.outcome b base s is tt;
  cause = λ takes. err_on c.from_residual.result c.in_err-make_entry_room.field-0.0 _ c.from_residual.ensures.1 (flush_sound g.D.Disk c.in_err-make_entry_room.ensures.outcome);
}

pub returns-clause-outcome : goal.returns-clause-outcome
returns-clause-outcome g c =
    let room = c.in_ok-make_entry_room.ensures.outcome in
    redo_own g.D.Disk _ c.redo_held.result (search rules) room.ends.began (c.redo_held.ensures.failed ∙ room.ends.works) room.ends.alive c.redo_held.ensures.refused (c.redo_held.ensures.frames ∙ room.frames)

pub returns-clause-kept : goal.returns-clause-kept
returns-clause-kept g c b base s newer older is over at there from ready below has =
    let room = c.in_ok-make_entry_room.ensures.kept b base s is in
    let t = room.now in
    let mid = c.make_entry_room.new.self in
    let disk = c.make_entry_room.new.disk in
    let new = c.redo_held.new.self in
    let keeps = room.on.goes.keeps in
    let r = logged_at c.args.lsn (view c.args.record.now) in
    let n = c.args.number in
    let number : n ≡ page_of (view c.args.record.now) = sym c.requires.page in
    let page_is : (t.pages n).page ≡ (s.pages (page_of (view c.args.record.now))).page = (keeps.pages n).page ∙ ap (λ (k : ℕ). (s.pages k).page) number in
    let below_s : (s.pages r.page).page.lsn < c.args.lsn = subst (λ (k : ℕ). (s.pages k).page.lsn < c.args.lsn) number below in
    let below_t : (t.pages r.page).page.lsn < c.args.lsn = subst (λ (g : Page). g.lsn < c.args.lsn) (sym (keeps.pages r.page).page) below_s in
    let step = redone_here g.D.Disk b base t mid.log mid.table mid.pool disk room.on.goes.writing (keeps.redo_end ∙ over) r (keeps.durable.newer ++ newer) older (there_still b s t keeps r newer older there)
    (subst (λ (k : ℕ). k ≤ c.args.lsn) (sym (keeps.point ∙ at)) from) (ready_still b s t keeps r newer older ready) in
    record {
      ok = on_of c.redo_held.result _ _ c.redo_held.ensures.ok (λ done here. record {
        before = t;
        keeps = keeps;
        stops = room.on.goes.stops;
        known = c.args.copied;
        stands = record { working = c.redo_held.ensures.failed ∙ room.on.working; known = known_redone t (redone_as c.args.copied r t) new.known (keeps.redo_end ∙ over) refl refl refl (subst (λ (known : Known). IsKnown t known) (sym c.redo_held.ensures.known) room.on.known); writing = step c.args.copied (λ known. subst (λ (k : ℕ). HasCopy t.durable k t.point) number (copy_still b s t keeps n (has known))) c.args.point n done new.log mid new refl refl (keeps.point ∙ at) number below_t c.redo_held.ensures.log here };
      });
      applied = if_ok c.redo_held.result _ _ c.redo_held.ensures.ok (λ done here. here.applied.changes ∙ sym (applies_is r (s.pages r.page).page below_s));
      stops = leaves_so_far g.D.Disk b base s c.args.disk.now t mid.log mid.table mid.pool disk room.on.goes;
      cause = λ takes. not_no_store c.redo_held.result _
          (has_taker _ (length mid.table.entries) mid.table.most (held_of mid.pool n) (taker_there r mid.pool n (t.pages n) number (room.on.goes.writing.pooled.shows n) (subst (λ (g : Page). g.lsn < c.args.lsn) (sym page_is) below_s)
          (subst (λ (g : Page). applies r r.page g ≡ true → PageTakes r.what g) (sym page_is) takes)) room.room (c.in_ok-make_entry_room.ensures.held.held n ∙ c.requires.held)) c.redo_held.ensures.refused;
    }
