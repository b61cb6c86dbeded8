use Rattle.std.proofs.Common.{sym, subst, ◌∙◌, ap, ◌≡◌, true, false, Some}
use Rattle.std.specs.Result.{is_ok}
use Rattle.im_base_types.specs.Pages.{Body, Page}
use Rattle.im_base_types.specs.declared.page_kind.PageKind.TheVariants.{Inner}
use Rattle.im_theory_page.specs.Entry.{Rises}
use Rattle.im_smo_pages.specs.Parts.{CanSplit}
use Rattle.im_smo_pages.proofs.Holding.{held_there, three_puts}
use Rattle.im_smo_pages.proofs.Parting.{parts_inner}
use Rattle.im_smo_pages.proofs.images.Images.split_inner.Goals as goal

pub returns-in_err-n-clause-sound : goal.returns-in_err-n-clause-sound
returns-in_err-n-clause-sound c pages has can e =
    let there = c.in-Some.ensures.page ∙ ap Some (sym c.deref_mut-3.ensures.value) in
    let fine = c.split_inner.ensures.ok (subst (λ (b : Body). CanSplit false Inner c.args.page.now.body b c.args.q) (held_there pages c.args.self.now c.args.parent c.deref_mut-3.result.now there) can) in
    let clash : true ≡ false = sym fine ∙ ap is_ok c.in_err-n.was in cc clash

pub returns-clause-parts : goal.returns-clause-parts
returns-clause-parts c =
    parts_inner c.args.self.now c.put-3.new.self c.args.page.now _ _ _ _ _ _ c.args.parent c.args.p c.args.q c.in_ok-n.n c.law_rise.ensures
    (c.in-Some.ensures.page ∙ ap Some (sym c.deref_mut-3.ensures.value)) (subst (λ (p : Page). Rises p.body.entries) (c.deref.ensures ∙ sym c.deref_mut-3.ensures.value) c.law_content.ensures.rises) c.in_ok-n.ensures.split
    (three_puts c.args.self.now c.take.new.self c.put.new.self c.put-2.new.self c.put-3.new.self c.args.parent _ c.args.q _ c.args.p _ c.law_rise.ensures c.take.ensures.new
    c.in_ok-put.ensures.new c.in_ok-put-2.ensures.new c.in_ok-put-3.ensures.new)
