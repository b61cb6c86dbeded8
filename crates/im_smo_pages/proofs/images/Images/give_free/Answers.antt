use Rattle.std.proofs.Common.{sym, subst, ◌∙◌, ap, ◌≡◌, ◌<◌, ◌+◌, ◌^◌, true, false, Some}
use Rattle.std.specs.Result.{is_ok}
use Rattle.im_base_types.specs.Pages.{Body, Page}
use Rattle.im_smo_pages.proofs.Holding.{held_there, two_puts}
use Rattle.im_smo_pages.proofs.Becoming.{gives_free}
use Rattle.im_smo_pages.proofs.images.Images.give_free.Goals as goal

pub returns-in_err-give_free-clause-sound : goal.returns-in_err-give_free-clause-sound
returns-in_err-give_free-clause-sound c pages has meta few e =
    let there = c.in-Some.ensures.page ∙ ap Some (sym c.deref_mut.ensures.value) in
    let body = held_there pages c.args.self.now 0 c.deref_mut.result.now there in
    let fine = c.give_free.ensures.ok.1 (ap (λ (b : Body). b.kind) (sym body) ∙ meta, subst (λ (b : Body). b.prev + 1 < 2 ^ 32) body few) in
    let clash : true ≡ false = sym fine ∙ ap is_ok c.in_err-give_free.was in cc clash

pub returns-clause-new : goal.returns-clause-new
returns-clause-new c =
    gives_free c.args.self.now c.put-2.new.self c.deref_mut.result.now c.give_free.new.meta c.give_free.new.page c.args.number c.law_rise.ensures
    (c.in-Some.ensures.page ∙ ap Some (sym c.deref_mut.ensures.value))
    (two_puts c.args.self.now c.take.new.self c.put.new.self c.put-2.new.self 0 _ c.args.number _ c.law_rise.ensures c.take.ensures.new c.in_ok-put.ensures.new c.in_ok-put-2.ensures.new)
    (ap (λ (p : Page). p.body) c.in_ok-give_free.ensures.meta) (ap (λ (p : Page). p.body) c.in_ok-give_free.ensures.page)
