use Rattle.std.proofs.Common.{◌≡◌, ◌≤◌, All, [], ◌∷◌, length, sym, ap, subst, ◌∙◌, arith, append_assoc, append-nil}
use Rattle.std.specs.Prelude.{IfNone}
use Rattle.std.specs.Vec.Iter.{into_iter_items}
use Rattle.std.specs.List.{sum_by}
use Rattle.std.proofs.lemmas.List.Sums.{sum_by_push}
use Rattle.std.proofs.lemmas.List.Elements.{All-head, All-tail}
use Rattle.im_front_load.specs.Counting.{least_of, IsDone}
use Rattle.im_front_load.specs.Refusals.{StopsFor}
use Rattle.im_front_load.proofs.Counting.{none_is, nothing_left}
use Rattle.im_front_load.proofs.loading.shares_of.Goals as goal

pub loop-one-preserved : goal.loop-one-preserved
loop-one-preserved g c =
    let i = c.loop-one.invariant in
    let one = c.in-Some.one in
    let steps : into_iter_items c.loop-one.one-iterator ≡ c.in-Some.one ∷ into_iter_items c.next.new.self = c.in-Some.ensures.steps.0 in (
      append_assoc c.loop-one.yielded (c.in-Some.one ∷ []) _ ∙ rw (← steps) i.0,
      let was = i.1 in let gone = c.in-Some.ensures.steps.1 in let short = ap length steps in omega arith,
      λ txns rounds all.
          let k = i.2 txns rounds all in
          let both = subst (All (IsDone txns rounds)) steps k.1 in
          let head = All-head (IsDone txns rounds) c.in-Some.one (into_iter_items c.next.new.self) both in
          let made : least_of txns rounds c.in-Some.one.task ≤ c.in-Some.one.share.made.amount = subst (λ o. IfNone o (least_of txns rounds c.in-Some.one.task ≤ c.in-Some.one.share.made.amount)) (none_is c.in-Some.one.fault c.in_default-fault.not-Some) head in
          let pushed = ap (sum_by (λ s. s.made.amount)) c.in-Ok-push.ensures.items in (
            omega (arith, k.0, made, pushed, sum_by_push (λ e. least_of txns rounds e.task) c.loop-one.yielded c.in-Some.one, sum_by_push (λ s. s.made.amount) c.loop-one.shares.items c.in-Some.one.share),
            All-tail (IsDone txns rounds) c.in-Some.one (into_iter_items c.next.new.self) both,
          ),
      λ stops. All-tail (StopsFor g.E.Store) c.in-Some.one (into_iter_items c.next.new.self) (subst (All (StopsFor g.E.Store)) steps (i.3 stops)),
    )

pub returns-clause-steps : goal.returns-clause-steps
returns-clause-steps g c =
    let i = c.loop-one.invariant in
    let none = c.in-None.ensures.steps in
    let empty : into_iter_items c.loop-one.one-iterator ≡ [] = nothing_left _ (sym i.1 ∙ none.0) in
    let given = c.into_iter-one-iterator.ensures.into_iter_gives.0 in
    let all = sym (append-nil c.loop-one.yielded) ∙ rw empty at i.0 ∙ given in
    λ txns rounds done. subst (λ l. sum_by (λ e. least_of txns rounds e.task) l ≤ sum_by (λ s. s.made.amount) c.loop-one.shares.items) all ((i.2 txns rounds (subst (All (IsDone txns rounds)) (sym given) done)).0)
