use Rattle.std.proofs.Common.{◌≡◌, ◌≢◌, refl, ◌∙◌, ap, subst}
use Rattle.im_base_types.specs.Records.{Unreadable}
use Rattle.im_theory_log.specs.PageCounts.{count_in}
use Rattle.im_log_record.specs.Entry.{Entry, Smo, UndoSmo, view, page_of}
use Rattle.im_log.specs.Whats.{page_behind, what_of}
use Rattle.im_restart_analysis.proofs.Counting.{said_at, smo_count, undo_count}
use Rattle.im_restart_analysis.proofs.page_counts.said_count.Goals as goal

pub returns-in-Smo : goal.returns-in-Smo
returns-in-Smo c readable =
    let s = c.in-Smo in
    let is : view c.args.record.now ≡ Smo s.transaction s.prev s.page s.before.now s.after.now = ap view s.is in
    said_at (view c.args.record.now) s.page s.after.now c.count_at.result c.count_at.ensures (ap page_of is)
    (ap (λ (e : Entry). count_in (what_of e)) is
    ∙ smo_count (page_behind s.before.now) (page_behind s.after.now) s.after.now refl (subst (λ (e : Entry). what_of e ≢ Unreadable) is readable))

pub returns-in-UndoSmo : goal.returns-in-UndoSmo
returns-in-UndoSmo c readable =
    let s = c.in-UndoSmo in
    let is : view c.args.record.now ≡ UndoSmo s.transaction s.prev s.undo_next s.page s.after.now = ap view s.is in
    said_at (view c.args.record.now) s.page s.after.now c.count_at-in-UndoSmo.result c.count_at-in-UndoSmo.ensures (ap page_of is)
    (ap (λ (e : Entry). count_in (what_of e)) is ∙ undo_count (page_behind s.after.now) s.after.now refl (subst (λ (e : Entry). what_of e ≢ Unreadable) is readable))
