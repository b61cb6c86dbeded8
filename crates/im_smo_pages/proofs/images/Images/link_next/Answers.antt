use Rattle.std.proofs.Common.{sym, ◌∙◌, ap, ◌≡◌, ◌≤◌, true, false, Some, arith}
use Rattle.std.specs.Result.{is_ok}
use Rattle.im_base_types.specs.Pages.{Body, Page}
use Rattle.im_smo_pages.proofs.Holding.{held_there, one_put}
use Rattle.im_smo_pages.proofs.Becoming.{becomes_next}
use Rattle.im_smo_pages.proofs.images.Images.link_next.Goals as goal

pub returns-in_err-link_next-clause-sound : goal.returns-in_err-link_next-clause-sound
returns-in_err-link_next-clause-sound c pages has leaf e =
    let there = c.in-Some.ensures.page ∙ ap Some (sym c.deref_mut.ensures.value) in
    let some : 1 ≤ c.args.number = omega arith in
    let fine = c.link_next.ensures.ok.1 (ap (λ (b : Body). b.kind) (sym (held_there pages c.args.self.now c.args.number c.deref_mut.result.now there)) ∙ leaf some) in
    let clash : true ≡ false = sym fine ∙ ap is_ok c.in_err-link_next.was in cc clash

pub returns-clause-new : goal.returns-clause-new
returns-clause-new c =
    becomes_next c.args.self.now c.put.new.self c.args.number c.args.next c.deref_mut.result.now c.link_next.new.page (omega arith) c.law_rise.ensures (c.in-Some.ensures.page ∙ ap Some (sym c.deref_mut.ensures.value))
    (one_put c.args.self.now c.take.new.self c.put.new.self c.args.number _ c.law_rise.ensures c.take.ensures.new c.in_ok-put.ensures.new) (ap (λ (p : Page). p.body) c.in_ok-link_next.ensures.new)
