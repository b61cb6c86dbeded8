use Rattle.std.proofs.Common.{◌≡◌, ◌-◌, ◌∙◌, ℕ, length, ap, subst}
use Rattle.im_base_types.specs.Pages.{Page}
use Rattle.im_smo_pages.specs.Images.{image_at}
use Rattle.im_smo_log.specs.Logged.{PageLogKept}
use Rattle.im_smo_log.specs.Marks.{marked_if}
use Rattle.im_smo_log.proofs.page_record.log_image.Goals as goal

pub returns-clause-kept : goal.returns-clause-kept
returns-clause-kept g c b base s e is over =
    let xs = c.args.images.now in
    let i = c.args.i in
    let t = c.args.transaction in
    let prev = c.args.prev in
    let m = c.args.marked in
    let old = c.args.disk.now in
    let w = c.log_marked.new.writer in
    let disk = c.log_marked.new.disk in
    let highest : c.number-highest.result ≡ (image_at xs (length xs - 1)).0 = c.number-highest.ensures ∙ ap (λ (n : ℕ). (image_at xs (n - 1)).0) c.len-len.ensures.len in
    subst (λ (h : ℕ). PageLogKept g.D.Disk b base s t prev (image_at xs i).0 h (marked_if m (image_at xs i).1.body) old w disk c.log_marked.result) highest
    (subst (λ (n : ℕ). PageLogKept g.D.Disk b base s t prev n c.number-highest.result (marked_if m (image_at xs i).1.body) old w disk c.log_marked.result) c.number.ensures
    (subst (λ (x : Page). PageLogKept g.D.Disk b base s t prev c.number.result c.number-highest.result (marked_if m x.body) old w disk c.log_marked.result) c.page.ensures (c.log_marked.ensures.kept b base s e is over)))
