use Rattle.std.proofs.Common.{◌≡◌, ◌≤◌, ◌<◌, ◌+◌, ◌++◌, [], ◌∷◌, List, sym, ◌∙◌, ap, subst, arith, append_assoc, rules}
use Rattle.im_base_types.specs.Pages.{Entry}
use Rattle.im_theory_page.specs.Entry.{entry_at}
use Rattle.im_tree_search.specs.declared.next_key.NextKey.{NextKey}
use Rattle.im_tree_search.specs.NextKeys.{far_name, IsFar}
use Rattle.im_tree_search.proofs.Ranges.{Taken, part_full, part_whole, taken_more}
use Rattle.im_tree_search.proofs.range.add_part.Goals as goal

pub returns-then-len-limit-clause-part : goal.returns-then-len-limit-clause-part
returns-then-len-limit-clause-part c =
    let es = c.args.page.now.body.entries in
    let old = c.args.list.now.items in
    let i = c.loop-i.i in
    let from = c.place_past-from.result in
    let to = c.place_past-to.result in
    let new = c.add_entry.new.list.items in
    let below : i < to = omega (arith, c.loop-i-test.true) in
    let beyond : from ≤ i = omega (arith, c.loop-i.auto.i) in
    let is : new ≡ Taken old es from (i + 1) =
    c.in_ok-add_entry.ensures.added ∙ ap (λ (xs : List Entry). xs ++ entry_at es i ∷ []) c.loop-i.invariant.taken ∙ append_assoc old _ (entry_at es i ∷ [])
    ∙ ap (λ (xs : List Entry). old ++ xs) (sym (taken_more es from i beyond (omega (arith, below, c.place_past-to.ensures.parted.inside)))) in
    part_full c.args.lo.now c.args.hi.now c.args.limit es old new from to i c.place_past-from.ensures.parted c.place_past-to.ensures.parted beyond below is (search rules)

pub returns-then-to-len-clause-part : goal.returns-then-to-len-clause-part
returns-then-to-len-clause-part c =
    let es = c.args.page.now.body.entries in
    let old = c.args.list.now.items in
    let i = c.loop-i.i in
    let from = c.place_past-from.result in
    let to = c.place_past-to.result in
    let whole = part_whole c.args.lo.now c.args.hi.now es old c.loop-i.list.items from to i c.place_past-from.ensures.parted c.place_past-to.ensures.parted (omega (arith, c.loop-i-test.false)) c.loop-i.invariant.at c.loop-i.invariant.taken in (
      whole,
      c.loop-i.invariant.room,
      (entry_at es to, c.place_past-to.ensures.first.0 (search rules), ap far_name c.copied.ensures),
      subst (λ (n : NextKey). IsFar n) (sym c.copied.ensures) tt,
    )

pub returns-clause-part : goal.returns-clause-part
returns-clause-part c =
    let es = c.args.page.now.body.entries in
    let old = c.args.list.now.items in
    let from = c.place_past-from.result in
    let to = c.place_past-to.result in
    let whole = part_whole c.args.lo.now c.args.hi.now es old c.loop-i.list.items from to c.loop-i.i c.place_past-from.ensures.parted c.place_past-to.ensures.parted (omega (arith, c.loop-i-test.false)) c.loop-i.invariant.at c.loop-i.invariant.taken in
    (whole, c.loop-i.invariant.room, c.place_past-to.ensures.first.1 (search rules))
