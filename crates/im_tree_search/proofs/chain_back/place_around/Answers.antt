use Rattle.std.proofs.Common.{◌≤◌, ◌<◌, inl, length, arith, subst}
use Rattle.im_base_types.specs.Maps.{From}
use Rattle.im_tree_search.specs.Ranges.{IsParted}
use Rattle.im_tree_search.proofs.GoingBack.{last_before, last_none}
use Rattle.im_tree_search.proofs.chain_back.place_around.Goals as goal

pub returns-then-place-eq0-clause-none : goal.returns-then-place-eq0-clause-none
returns-then-place-eq0-clause-none c none = inl (last_none c.args.key.now c.args.page.now.body.entries (subst (IsParted (From c.args.key.now) c.args.page.now.body.entries) c.if-place-eq0.true c.place_past-place.ensures.parted))

pub returns-then-place-len-clause-some : goal.returns-then-place-len-clause-some
returns-then-place-len-clause-some c =
    let es = c.args.page.now.body.entries in
    let place = c.place_past-place.result in
    let both = c.place_past-place.ensures in
    let some : 1 ≤ place = omega (arith, c.if-place-eq0.false) in
    let within : place < length es = omega (arith, c.if-place-len.true, c.len.ensures) in
    record { some = some; within = within; last = last_before c.args.key.now es place some both.parted; first = both.first.0 within }
