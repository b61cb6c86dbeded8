use Rattle.std.proofs.Common.{◌≡◌, ◌≢◌, refl, ◌∙◌, ap, max, subst}
use Rattle.im_base_types.specs.Records.{Unreadable}
use Rattle.im_theory_page.specs.Number.{u32_at}
use Rattle.im_theory_page.specs.Page as pages
use Rattle.im_log_record.specs.Entry.{Entry, Image, Smo, UndoSmo, view, page_of}
use Rattle.im_log.specs.Whats.{page_behind, what_of}
use Rattle.im_restart_analysis.specs.Within.{greatest_in}
use Rattle.im_restart_analysis.proofs.Counting.{greatest_at, image_greatest, smo_greatest, undo_greatest}
use Rattle.im_restart_analysis.proofs.page_counts.greatest_in.Goals as goal

pub returns-in-Smo : goal.returns-in-Smo
returns-in-Smo c readable =
    let s = c.in-Smo in
    let is : view c.args.record.now ≡ Smo s.transaction s.prev s.page s.before.now s.after.now = ap view s.is in
    greatest_at (view c.args.record.now) s.page (max (u32_at s.before.now 16) (u32_at s.after.now 16)) c.greater_at.result c.greater_at.ensures (ap page_of is)
    (ap (λ (e : Entry). greatest_in (what_of e)) is
    ∙ smo_greatest (page_behind s.before.now) (page_behind s.after.now) s.before.now s.after.now refl refl (subst (λ (e : Entry). what_of e ≢ Unreadable) is readable))

pub returns-in-UndoSmo : goal.returns-in-UndoSmo
returns-in-UndoSmo c readable =
    let s = c.in-UndoSmo in
    let is : view c.args.record.now ≡ UndoSmo s.transaction s.prev s.undo_next s.page s.after.now = ap view s.is in
    greatest_at (view c.args.record.now) s.page (u32_at s.after.now 16) c.count_at.result c.count_at.ensures (ap page_of is)
    (ap (λ (e : Entry). greatest_in (what_of e)) is ∙ undo_greatest (page_behind s.after.now) s.after.now refl (subst (λ (e : Entry). what_of e ≢ Unreadable) is readable))

pub returns-in-Image : goal.returns-in-Image
returns-in-Image c readable =
    let s = c.in-Image in
    let is : view c.args.record.now ≡ Image s.page s.bytes.now = ap view s.is in
    greatest_at (view c.args.record.now) s.page (u32_at s.bytes.now 24) c.copied_count.result c.copied_count.ensures (ap page_of is)
    (ap (λ (e : Entry). greatest_in (what_of e)) is ∙ image_greatest (pages.page_of s.bytes.now) s.bytes.now refl (subst (λ (e : Entry). what_of e ≢ Unreadable) is readable))
