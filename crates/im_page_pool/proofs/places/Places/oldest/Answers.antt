use Rattle.std.proofs.Common.{◌≡◌, ℕ, [], ◌∷◌, ◌++◌, Option, Some, sym, ap, ◌∙◌}
use Rattle.lru.specs.LruCache.{last_entry}
use Rattle.im_page_pool.specs.Places.{PlacesView, taken_in}
use Rattle.im_page_pool.proofs.UseLemmas.{option_none, taken_push}
use Rattle.im_page_pool.proofs.NumberLemmas.{taken_passed}
use Rattle.im_page_pool.proofs.EntryLemmas.{last_push}
use Rattle.im_page_pool.proofs.places.Places.oldest.Goals as goal

pub loop-place-init : goal.loop-place-init
loop-place-init c =
    let e : c.into_iter-place-iterator.result.iter ≡ c.self.inside.by_use.entries = ap (λ r. r.iter) c.into_iter-place-iterator.ensures.into_iter_gives ∙ c.rev-place-items.ensures.source ∙ c.iter.ensures.rest in
    sym (ap (λ (v : PlacesView). v.taken) c.self.view_is) ∙ ap taken_in (sym e)

pub returns-in-Some-number : goal.returns-in-Some-number
returns-in-Some-number c =
    let rest = c.next.new.self.iter in
    let is = c.in-Some.ensures.steps ∙ ap (λ (o : Option ℕ). rest ++ (c.in-Some.place.now, o) ∷ []) c.in-Some-number.is in
    sym (ap last_entry (c.loop-place.invariant ∙ ap taken_in is ∙ taken_push rest c.in-Some.place.now (Some c.in-Some-number.p)) ∙ last_push (taken_in rest) (c.in-Some-number.p, c.in-Some.place.now))

pub loop-place-preserved : goal.loop-place-preserved
loop-place-preserved c =
    let rest = c.next.new.self.iter in
    let is = c.in-Some.ensures.steps ∙ ap (λ (o : Option ℕ). rest ++ (c.in-Some.place.now, o) ∷ []) (option_none c.in-Some.number.now c.in_default.not-Some) in
    c.loop-place.invariant ∙ taken_passed rest c.loop-place.place-iterator.iter c.in-Some.place.now is

pub returns : goal.returns
returns c = sym (ap last_entry (c.loop-place.invariant ∙ ap taken_in c.in-None.ensures.steps.0))
