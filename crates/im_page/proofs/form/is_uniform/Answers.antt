use Rattle.std.proofs.Common.{ℕ, List, refl, subst}
use Rattle.im_theory_page.specs.Form.{count_of}
use Rattle.im_page.specs.Sound.{ArePlaces}
use Rattle.im_page.proofs.UniformLemmas.{together, uniform_sound}
use Rattle.im_page.proofs.form.is_uniform.Goals as goal

pub do_keys_rise-requires-clause-places : goal.do_keys_rise-requires-clause-places
do_keys_rise-requires-clause-places c = subst (λ k. ArePlaces c.args.bytes.now k (count_of c.args.bytes.now)) c.cell_len-size.ensures (c.if-are_places.ensures refl)

pub returns-then-are_places : goal.returns-then-are_places
returns-then-are_places c =
    let bytes : List ℕ = c.args.bytes.now in
    let all = together bytes _ _ _ _ c.get_u16.ensures.value c.get_u16-count.ensures.value c.cell_len-size.ensures c.if-get_u16-count-ne-PAGE_SIZE.false in
    let places = subst (λ k. ArePlaces bytes k (count_of bytes)) c.cell_len-size.ensures (c.if-are_places.ensures refl) in
    λ t. uniform_sound c.args.leaf bytes _ places (c.do_keys_rise.ensures t) all
