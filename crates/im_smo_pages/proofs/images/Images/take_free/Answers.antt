use Rattle.std.proofs.Common.{sym, subst, ◌∙◌, ap, ◌≡◌, ◌≤◌, true, false, Some, refl}
use Rattle.std.specs.Result.{is_ok}
use Rattle.im_base_types.specs.Pages.{Body, Page}
use Rattle.im_smo_pages.proofs.Holding.{held_there, one_put}
use Rattle.im_smo_pages.proofs.Becoming.{takes_first}
use Rattle.im_smo_pages.proofs.images.Images.take_free.Goals as goal

pub returns-in_err-number-clause-sound : goal.returns-in_err-number-clause-sound
returns-in_err-number-clause-sound c pages has meta some free e =
    let there = c.in-Some.ensures.page ∙ ap Some (sym c.deref_mut.ensures.value) in
    let body = held_there pages c.args.self.now 0 c.deref_mut.result.now there in
    let fine = c.take_free.ensures.ok.1 (ap (λ (b : Body). b.kind) (sym body) ∙ meta, subst (λ (b : Body). 1 ≤ b.prev) body some, free) in
    let clash : true ≡ false = sym fine ∙ ap is_ok c.in_err-number.was in cc clash

pub returns-clause-taken : goal.returns-clause-taken
returns-clause-taken c =
    takes_first c.args.self.now c.put.new.self c.deref_mut.result.now c.take_free.new.meta c.args.page.now c.in_ok-number.number c.law_rise.ensures
    (c.in-Some.ensures.page ∙ ap Some (sym c.deref_mut.ensures.value))
    (one_put c.args.self.now c.take.new.self c.put.new.self 0 _ c.law_rise.ensures c.take.ensures.new c.in_ok-put.ensures.new)
    c.in_ok-number.ensures.number (c.in_ok-number.ensures.ok.0 refl).1 (ap (λ (p : Page). p.body) c.in_ok-number.ensures.new)
