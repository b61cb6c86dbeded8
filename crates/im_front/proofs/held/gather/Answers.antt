use Rattle.std.proofs.Common.{◌≡◌, ◌+◌, [], ◌∷◌, List, length, refl, sym, ap, ◌∙◌, arith, length-append, append_assoc, append-nil}
use Rattle.std.specs.Vec.Iter.{into_iter_items}
use Rattle.std.specs.List.{sum_by}
use Rattle.std.proofs.lemmas.List.Sums.{sum_by_push}
use Rattle.im_front.proofs.held.gather.Goals as goal

nothing_left : {X : Type 0} (l : List X) → length l ≡ 0 → l ≡ []
nothing_left [] h = refl
nothing_left (x ∷ xs) h = absurd (omega arith)

pub loop-share-preserved : goal.loop-share-preserved
loop-share-preserved g c =
    let i = c.loop-share.invariant in
    let steps : into_iter_items c.loop-share.share-iterator ≡ c.in-Some.share ∷ into_iter_items c.next.new.self = c.in-Some.ensures.steps.0 in (
      omega (arith, i.0, c.merge.ensures.parts, c.in-Some.share.one_part, length-append c.loop-share.yielded (c.in-Some.share ∷ [])),
      omega (arith, i.1, c.merge.ensures.amount, sum_by_push (λ s. s.made.amount) c.loop-share.yielded c.in-Some.share),
      append_assoc c.loop-share.yielded (c.in-Some.share ∷ []) _ ∙ rw (← steps) i.2,
      let was = i.3 in let gone = c.in-Some.ensures.steps.1 in let short = ap length steps in omega arith,
    )

pub returns-clause-parts : goal.returns-clause-parts
returns-clause-parts g c =
    let i = c.loop-share.invariant in
    let none = c.in-None.ensures.steps in
    let empty : into_iter_items c.loop-share.share-iterator ≡ [] = nothing_left _ (sym i.3 ∙ none.0) in
    let all = sym (append-nil c.loop-share.yielded) ∙ rw empty at i.2 ∙ c.into_iter-share-iterator.ensures.into_iter_gives.0 in
    i.0 ∙ ap (λ l. c.args.rest.now.parts + length l) all

pub returns-clause-amount : goal.returns-clause-amount
returns-clause-amount g c =
    let i = c.loop-share.invariant in
    let none = c.in-None.ensures.steps in
    let empty : into_iter_items c.loop-share.share-iterator ≡ [] = nothing_left _ (sym i.3 ∙ none.0) in
    let all = sym (append-nil c.loop-share.yielded) ∙ rw empty at i.2 ∙ c.into_iter-share-iterator.ensures.into_iter_gives.0 in
    i.1 ∙ ap (λ l. c.args.rest.now.amount + sum_by (λ s. s.made.amount) l) all
