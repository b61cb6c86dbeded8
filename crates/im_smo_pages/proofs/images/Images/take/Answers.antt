use Rattle.std.proofs.Common.{sym, ◌∙◌, ap, subst, List, ◌≡◌, remove}
use Rattle.im_smo_pages.specs.Images.{Numbered, IsRising, without_image}
use Rattle.im_smo_pages.proofs.ImageLemmas.{without_found, without_none, without_rising}
use Rattle.im_smo_pages.proofs.images.Images.take.Goals as goal

pub invariant_of-self : goal.invariant_of-self
invariant_of-self c =
    let is : without_image c.args.number c.args.self.now ≡ c.remove-image.new.self.items =
    without_found c.args.number c.args.self.now c.in-Ok.at c.in-Ok.ensures.found ∙ ap (λ (l : List Numbered). remove l c.in-Ok.at) (sym c.self.view_is) ∙ sym c.remove-image.ensures.items in
    subst IsRising is (without_rising c.args.number c.args.self.now (rw (← c.self.view_is) c.self.invariant))

pub returns-in-Ok-clause-new : goal.returns-in-Ok-clause-new
returns-in-Ok-clause-new c =
    c.remove-image.ensures.items ∙ ap (λ (l : List Numbered). remove l c.in-Ok.at) c.self.view_is
    ∙ sym (without_found c.args.number c.args.self.now c.in-Ok.at c.in-Ok.ensures.found)

pub returns-in-Err-clause-new : goal.returns-in-Err-clause-new
returns-in-Err-clause-new c = sym (without_none c.args.number c.args.self.now c.in-Err.ensures.none)
