use Rattle.std.proofs.Common.{sym, ◌∙◌, ap, subst, List, ◌≡◌}
use Rattle.std.specs.Result.{is_ok}
use Rattle.std.proofs.Math.ListN.{set}
use Rattle.im_smo_pages.specs.Images.{Numbered, IsRising, put_image}
use Rattle.im_smo_pages.proofs.ImageLemmas.{put_found, put_rising, inserted}
use Rattle.im_smo_pages.proofs.images.Images.put.Goals as goal

pub invariant_of-self : goal.invariant_of-self
invariant_of-self c =
    let is : put_image c.args.number c.args.page.value c.args.self.now ≡ set c.self.inside.images.items c.in-Ok.at (c.args.number, c.args.page.value) =
    put_found c.args.number c.args.page.value c.args.self.now c.in-Ok.at c.in-Ok.ensures.found
    ∙ ap (λ (l : List Numbered). set l c.in-Ok.at (c.args.number, c.args.page.value)) (sym c.self.view_is) in
    subst IsRising is (put_rising c.args.number c.args.page.value c.args.self.now (rw (← c.self.view_is) c.self.invariant))

pub returns-in-Ok-clause-new : goal.returns-in-Ok-clause-new
returns-in-Ok-clause-new c =
    ap (λ (l : List Numbered). set l c.in-Ok.at (c.args.number, c.args.page.value)) c.self.view_is
    ∙ sym (put_found c.args.number c.args.page.value c.args.self.now c.in-Ok.at c.in-Ok.ensures.found)

pub returns-in_ok-map_err-in-Err-clause-new : goal.returns-in_ok-map_err-in-Err-clause-new
returns-in_ok-map_err-in-Err-clause-new c =
    inserted c.insert.new.self.items c.self.inside.images.items c.args.self.now (is_ok c.insert.result) c.in-Err.at c.args.number c.args.page.value c.insert.ensures.items
    (sym c.map_err.ensures.variant ∙ ap is_ok c.in_ok-map_err-in-Err.was) c.self.view_is c.in-Err.ensures.absent

pub invariant_of-self-in-Err : goal.invariant_of-self-in-Err
invariant_of-self-in-Err c =
    let is : c.insert.new.self.items ≡ put_image c.args.number c.args.page.value c.args.self.now =
    inserted c.insert.new.self.items c.self.inside.images.items c.args.self.now (is_ok c.insert.result) c.in-Err.at c.args.number c.args.page.value c.insert.ensures.items
    (sym c.map_err.ensures.variant ∙ ap is_ok c.in_ok-map_err-in-Err.was) c.self.view_is c.in-Err.ensures.absent in
    subst IsRising (sym is) (put_rising c.args.number c.args.page.value c.args.self.now (rw (← c.self.view_is) c.self.invariant))
