use Rattle.std.proofs.Common.{refl, sym, ◌∙◌, ap, ◌≡◌, ◌+◌, Some, inl, inr}
use Rattle.std.proofs.lemmas.Result.{err_from_is_err_and}
use Rattle.im_base_types.specs.declared.fault.Fault.TheVariants.{Capacity, NotAStore}
use Rattle.im_base_types.specs.Pages.{Body, Page}
use Rattle.im_smo_pages.proofs.Holding.{held_there, one_put}
use Rattle.im_smo_pages.proofs.Becoming.{takes_next}
use Rattle.im_smo_pages.proofs.images.Images.take_count.Goals as goal

pub returns-in_err-number-clause-full : goal.returns-in_err-number-clause-full
returns-in_err-number-clause-full c e pages =
    let p = err_from_is_err_and c.from_residual.result c.from_residual.ensures.1 in
    let fault : c.in_err-number.field-0.0 ≡ Capacity = cc (p.1, p.2, e) in
    let there = c.in-Some.ensures.page ∙ ap Some (sym c.deref_mut.ensures.value) in
    let body = held_there pages c.args.self.now 0 c.deref_mut.result.now there in
    ap (λ (b : Body). b.leftmost + 1) body ∙ elim c.in_err-number.ensures.refused [ inl is ↦ (let clash : NotAStore ≡ Capacity = sym is ∙ fault in absurd (cc clash)) | inr is ↦ is.1 ]

pub returns-in_err-number-clause-sound : goal.returns-in_err-number-clause-sound
returns-in_err-number-clause-sound c pages has meta none e =
    let p = err_from_is_err_and c.from_residual.result c.from_residual.ensures.1 in
    let fault : c.in_err-number.field-0.0 ≡ NotAStore = cc (p.1, p.2, e) in
    let there = c.in-Some.ensures.page ∙ ap Some (sym c.deref_mut.ensures.value) in
    let body = held_there pages c.args.self.now 0 c.deref_mut.result.now there in
    let clash : NotAStore ≡ Capacity =
    sym fault ∙ c.in_err-number.ensures.sound (ap (λ (b : Body). b.kind) (sym body) ∙ meta) (ap (λ (b : Body). b.prev) (sym body) ∙ none) in
    cc clash

pub returns-clause-taken : goal.returns-clause-taken
returns-clause-taken c =
    takes_next c.args.self.now c.put.new.self c.deref_mut.result.now c.take_count.new.meta c.in_ok-number.number c.law_rise.ensures
    (c.in-Some.ensures.page ∙ ap Some (sym c.deref_mut.ensures.value))
    (one_put c.args.self.now c.take.new.self c.put.new.self 0 _ c.law_rise.ensures c.take.ensures.new c.in_ok-put.ensures.new)
    c.in_ok-number.ensures.number (c.in_ok-number.ensures.ok.0 refl).1 (ap (λ (p : Page). p.body) c.in_ok-number.ensures.new)
