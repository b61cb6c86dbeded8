use Rattle.std.proofs.Common.{◌≡◌, ℕ, suc, ◌+◌, ◌-◌, ◌<◌, List, [], ◌∷◌, ◌++◌, Bool, cond, length, take, reverse, slice_get, Option, Some, refl, sym, ap, subst, ◌∙◌, arith, length-set}
use Rattle.im_page_pool.specs.Inside.{marked_numbers}
use Rattle.im_page_pool.specs.Places.{taken_in}
use Rattle.im_page_pool.proofs.UseLemmas.{option_none, taken_push}
use Rattle.im_page_pool.proofs.NumberLemmas.{taken_passed}
use Rattle.im_page_pool.proofs.EntryLemmas.{in_front, at_end}
use Rattle.im_page_pool.proofs.WalkLemmas.{marked_start, marked_step, noted_more}
use Rattle.im_page_pool.proofs.pool.note_changed.Goals as goal

pub loop-place-init : goal.loop-place-init
loop-place-init c =
    let e : taken_in c.into_iter-place-iterator.result.iter ≡ c.args.places.now.taken =
    ap taken_in (ap (λ r. r.iter) c.into_iter-place-iterator.ensures.into_iter_gives ∙ c.rev-place-items.ensures.source) ∙ c.iter.ensures.rest in
    record {
      noted = omega arith;
      passed = omega arith;
      same = ap (λ (l : List (ℕ × ℕ)). take (length c.args.numbers.now) (marked_numbers c.args.frames.now (take c.args.among (reverse l)))) (sym e) ∙ marked_start c.args.frames.now (taken_in c.into_iter-place-iterator.result.iter) (length c.args.numbers.now) c.args.among;
      within = λ i x s. c.requires i x (subst (λ (l : List (ℕ × ℕ)). slice_get l i ≡ Some x) e s);
    }

pub is_changed-requires : goal.is_changed-requires
is_changed-requires c =
    let rest = c.next.new.self.iter in
    let is = ap taken_in (c.in-Some.ensures.steps ∙ ap (λ (o : Option ℕ). rest ++ (c.in-Some.place.now, o) ∷ []) c.in-Some-number.is) ∙ taken_push rest c.in-Some.place.now (Some c.in-Some-number.p) in
    c.loop-place.invariant.within (length (taken_in rest)) (c.in-Some-number.p, c.in-Some.place.now)
    (ap (λ (l : List (ℕ × ℕ)). slice_get l (length (taken_in rest))) is ∙ at_end (taken_in rest) (c.in-Some-number.p, c.in-Some.place.now))

pub loop-place-preserved-then-is_changed : goal.loop-place-preserved-then-is_changed
loop-place-preserved-then-is_changed c =
    let rest = c.next.new.self.iter in
    let l = c.loop-place in
    let fs = c.args.frames.now in
    let e : ℕ × ℕ = (c.in-Some-number.p, c.in-Some.place.now) in
    let is = ap taken_in (c.in-Some.ensures.steps ∙ ap (λ (o : Option ℕ). rest ++ (c.in-Some.place.now, o) ∷ []) c.in-Some-number.is) ∙ taken_push rest c.in-Some.place.now (Some c.in-Some-number.p) in
    let left : c.args.among - l.passed ≡ suc (c.args.among - (l.passed + 1)) = omega (arith, l.invariant.passed, c.if-passed-among.false) in
    let found = marked_numbers fs (take (c.args.among - (l.passed + 1)) (reverse (taken_in rest))) in
    let step = ap (λ (es : List (ℕ × ℕ)). marked_numbers fs (take (c.args.among - l.passed) (reverse es))) is ∙ marked_step fs (taken_in rest) e (c.args.among - l.passed) (c.args.among - (l.passed + 1)) left
    ∙ ap (λ (b : Bool). cond b (e.0 ∷ found) found) (sym c.if-is_changed.ensures) in
    let within : l.noted < length l.numbers = omega (arith, l.invariant.noted, c.if-noted-numbers.false) in
    let len = length-set l.numbers l.noted c.in-Some-number.p in
    let whole = take (length l.numbers) (marked_numbers fs (take c.args.among (reverse c.args.places.now.taken))) in
    let more = noted_more l.numbers whole found c.in-Some-number.p l.noted (length l.numbers) within refl (l.invariant.same ∙ ap (λ (xs : List ℕ). take l.noted l.numbers ++ take (length l.numbers - l.noted) xs) step) in
    record {
      noted = omega (arith, within, len);
      passed = omega (arith, left);
      same = rw len more;
      within = λ i x s. l.invariant.within i x (ap (λ (es : List (ℕ × ℕ)). slice_get es i) is ∙ in_front (taken_in rest) e x i s);
    }

pub loop-place-preserved-else-is_changed : goal.loop-place-preserved-else-is_changed
loop-place-preserved-else-is_changed c =
    let rest = c.next.new.self.iter in
    let l = c.loop-place in
    let fs = c.args.frames.now in
    let e : ℕ × ℕ = (c.in-Some-number.p, c.in-Some.place.now) in
    let is = ap taken_in (c.in-Some.ensures.steps ∙ ap (λ (o : Option ℕ). rest ++ (c.in-Some.place.now, o) ∷ []) c.in-Some-number.is) ∙ taken_push rest c.in-Some.place.now (Some c.in-Some-number.p) in
    let left : c.args.among - l.passed ≡ suc (c.args.among - (l.passed + 1)) = omega (arith, l.invariant.passed, c.if-passed-among.false) in
    let found = marked_numbers fs (take (c.args.among - (l.passed + 1)) (reverse (taken_in rest))) in
    let step = ap (λ (es : List (ℕ × ℕ)). marked_numbers fs (take (c.args.among - l.passed) (reverse es))) is ∙ marked_step fs (taken_in rest) e (c.args.among - l.passed) (c.args.among - (l.passed + 1)) left
    ∙ ap (λ (b : Bool). cond b (e.0 ∷ found) found) (sym c.if-is_changed.ensures) in
    record {
      noted = l.invariant.noted;
      passed = omega (arith, left);
      same = l.invariant.same ∙ ap (λ (xs : List ℕ). take l.noted l.numbers ++ take (length l.numbers - l.noted) xs) step;
      within = λ i x s. l.invariant.within i x (ap (λ (es : List (ℕ × ℕ)). slice_get es i) is ∙ in_front (taken_in rest) e x i s);
    }

pub loop-place-preserved : goal.loop-place-preserved
loop-place-preserved c =
    let rest = c.next.new.self.iter in
    let l = c.loop-place in
    let is = c.in-Some.ensures.steps ∙ ap (λ (o : Option ℕ). rest ++ (c.in-Some.place.now, o) ∷ []) (option_none c.in-Some.number.now c.in_default.not-Some) in
    let taken = taken_passed rest c.loop-place.place-iterator.iter c.in-Some.place.now is in
    record {
      noted = l.invariant.noted;
      passed = l.invariant.passed;
      same = l.invariant.same ∙ ap (λ (es : List (ℕ × ℕ)). take l.noted l.numbers ++ take (length l.numbers - l.noted) (marked_numbers c.args.frames.now (take (c.args.among - l.passed) (reverse es)))) taken;
      within = λ i x s. l.invariant.within i x (ap (λ (es : List (ℕ × ℕ)). slice_get es i) taken ∙ s);
    }
