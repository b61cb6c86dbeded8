use Rattle.std.proofs.Common.{◌≡◌, ◌∙◌, Bool, sym, ap, subst}
use Rattle.im_base_types.specs.Pages.{Body, Page}
use Rattle.im_smo_log.specs.Logged.{PageLogKept}
use Rattle.im_smo_log.specs.Marks.{marked_if}
use Rattle.im_smo_log.proofs.page_record.log_marked.Goals as goal

pub returns-then-not-marked-clause-kept : goal.returns-then-not-marked-clause-kept
returns-then-not-marked-clause-kept g c b base s e is over =
    let body : c.args.after.now.body ≡ marked_if c.args.marked c.args.after.now.body = ap (λ (m : Bool). marked_if m c.args.after.now.body) (sym c.if-not-marked.true) in
    subst (λ (x : Body). PageLogKept g.D.Disk b base s c.args.transaction c.args.prev c.args.number c.args.highest x c.args.disk.now c.log_page.new.writer c.log_page.new.disk c.log_page.result) body (c.log_page.ensures.kept b base s e is over)

pub returns-clause-kept : goal.returns-clause-kept
returns-clause-kept g c b base s e is over =
    let body : c.copy_marked.new.copy.body ≡ marked_if c.args.marked c.args.after.now.body =
    ap (λ (g : Page). g.body) c.copy_marked.ensures ∙ ap (λ (m : Bool). marked_if m c.args.after.now.body) (sym c.if-not-marked.false) in
    subst (λ (x : Body). PageLogKept g.D.Disk b base s c.args.transaction c.args.prev c.args.number c.args.highest x c.args.disk.now c.log_page-2.new.writer c.log_page-2.new.disk c.log_page-2.result) body (c.log_page-2.ensures.kept b base s e is over)
