use Rattle.std.proofs.Common.{◌≡◌, ℕ, List, [], ◌∷◌, ◌++◌, Bool, cond, length, slice_get, Option, Some, sym, ap, subst, ◌∙◌}
use Rattle.im_page_pool.specs.Inside.{last_marked}
use Rattle.im_page_pool.specs.Places.{taken_in}
use Rattle.im_page_pool.proofs.UseLemmas.{Uses, option_none, taken_push}
use Rattle.im_page_pool.proofs.NumberLemmas.{taken_passed}
use Rattle.im_page_pool.proofs.EntryLemmas.{in_front, at_end}
use Rattle.im_page_pool.proofs.WalkLemmas.{last_marked_push}
use Rattle.im_page_pool.proofs.pool.last_changed.Goals as goal

pub loop-place-init : goal.loop-place-init
loop-place-init c =
    let e : taken_in c.into_iter-place-iterator.result.iter ≡ c.args.places.now.taken =
    ap taken_in (ap (λ r. r.iter) c.into_iter-place-iterator.ensures.into_iter_gives ∙ c.rev-place-items.ensures.source) ∙ c.iter.ensures.rest in
    record { same = ap (last_marked c.args.frames.now) (sym e); within = λ i x s. c.requires i x (subst (λ (l : List (ℕ × ℕ)). slice_get l i ≡ Some x) e s) }

pub is_changed-requires : goal.is_changed-requires
is_changed-requires c =
    let rest = c.next.new.self.iter in
    let is = ap taken_in (c.in-Some.ensures.steps ∙ ap (λ (o : Option ℕ). rest ++ (c.in-Some.place.now, o) ∷ []) c.in-Some-number.is) ∙ taken_push rest c.in-Some.place.now (Some c.in-Some-number.p) in
    c.loop-place.invariant.within (length (taken_in rest)) (c.in-Some-number.p, c.in-Some.place.now)
    (ap (λ (l : List (ℕ × ℕ)). slice_get l (length (taken_in rest))) is ∙ at_end (taken_in rest) (c.in-Some-number.p, c.in-Some.place.now))

pub returns-then-is_changed : goal.returns-then-is_changed
returns-then-is_changed c =
    let rest = c.next.new.self.iter in
    let is = ap taken_in (c.in-Some.ensures.steps ∙ ap (λ (o : Option ℕ). rest ++ (c.in-Some.place.now, o) ∷ []) c.in-Some-number.is) ∙ taken_push rest c.in-Some.place.now (Some c.in-Some-number.p) in
    sym (c.loop-place.invariant.same ∙ ap (last_marked c.args.frames.now) is ∙ last_marked_push c.args.frames.now (taken_in rest) (c.in-Some-number.p, c.in-Some.place.now)
    ∙ ap (λ (b : Bool). cond b (Some (c.in-Some-number.p, c.in-Some.place.now)) (last_marked c.args.frames.now (taken_in rest))) (sym c.if-is_changed.ensures))

pub loop-place-preserved-else-is_changed : goal.loop-place-preserved-else-is_changed
loop-place-preserved-else-is_changed c =
    let rest = c.next.new.self.iter in
    let is = ap taken_in (c.in-Some.ensures.steps ∙ ap (λ (o : Option ℕ). rest ++ (c.in-Some.place.now, o) ∷ []) c.in-Some-number.is) ∙ taken_push rest c.in-Some.place.now (Some c.in-Some-number.p) in
    record {
      same =
          c.loop-place.invariant.same ∙ ap (last_marked c.args.frames.now) is ∙ last_marked_push c.args.frames.now (taken_in rest) (c.in-Some-number.p, c.in-Some.place.now)
          ∙ ap (λ (b : Bool). cond b (Some (c.in-Some-number.p, c.in-Some.place.now)) (last_marked c.args.frames.now (taken_in rest))) (sym c.if-is_changed.ensures);
      within = λ i x s. c.loop-place.invariant.within i x (ap (λ (l : List (ℕ × ℕ)). slice_get l i) is ∙ in_front (taken_in rest) (c.in-Some-number.p, c.in-Some.place.now) x i s);
    }

pub loop-place-preserved : goal.loop-place-preserved
loop-place-preserved c =
    let rest = c.next.new.self.iter in
    let is = c.in-Some.ensures.steps ∙ ap (λ (o : Option ℕ). rest ++ (c.in-Some.place.now, o) ∷ []) (option_none c.in-Some.number.now c.in_default.not-Some) in
    let taken = taken_passed rest c.loop-place.place-iterator.iter c.in-Some.place.now is in
    record {
      same = c.loop-place.invariant.same ∙ ap (last_marked c.args.frames.now) taken;
      within = λ i x s. c.loop-place.invariant.within i x (ap (λ (l : List (ℕ × ℕ)). slice_get l i) taken ∙ s);
    }

pub returns : goal.returns
returns c = sym (c.loop-place.invariant.same ∙ ap (λ (l : Uses). last_marked c.args.frames.now (taken_in l)) c.in-None.ensures.steps.0)
