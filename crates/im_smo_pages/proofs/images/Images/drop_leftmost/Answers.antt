use Rattle.std.proofs.Common.{sym, subst, ◌∙◌, ap, ◌≡◌, ◌<◌, length, true, false, Some}
use Rattle.std.specs.Result.{is_ok}
use Rattle.im_base_types.specs.Pages.{Body, Page}
use Rattle.im_smo_pages.specs.Bodies.{without_leftmost}
use Rattle.im_smo_pages.proofs.Holding.{held_there, one_put}
use Rattle.im_smo_pages.proofs.Becoming.{becomes_one}
use Rattle.im_smo_pages.proofs.images.Images.drop_leftmost.Goals as goal

pub returns-in_err-drop_leftmost-clause-sound : goal.returns-in_err-drop_leftmost-clause-sound
returns-in_err-drop_leftmost-clause-sound c pages has inner within e =
    let there = c.in-Some.ensures.page ∙ ap Some (sym c.deref_mut.ensures.value) in
    let body = held_there pages c.args.self.now c.args.parent c.deref_mut.result.now there in
    let fine = c.drop_leftmost.ensures.ok.1 (ap (λ (b : Body). b.kind) (sym body) ∙ inner, (subst (λ (b : Body). 0 < length b.entries) body within)) in
    let clash : true ≡ false = sym fine ∙ ap is_ok c.in_err-drop_leftmost.was in cc clash

pub returns-clause-new : goal.returns-clause-new
returns-clause-new c =
    becomes_one c.args.self.now c.put.new.self c.args.parent c.deref_mut.result.now c.drop_leftmost.new.parent without_leftmost c.law_rise.ensures (c.in-Some.ensures.page ∙ ap Some (sym c.deref_mut.ensures.value))
    (one_put c.args.self.now c.take.new.self c.put.new.self c.args.parent _ c.law_rise.ensures c.take.ensures.new c.in_ok-put.ensures.new) (ap (λ (p : Page). p.body) c.in_ok-drop_leftmost.ensures.new)
