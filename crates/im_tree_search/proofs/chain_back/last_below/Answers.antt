use Rattle.std.proofs.Common.{◌≤◌, arith, subst}
use Rattle.im_base_types.specs.Maps.{From}
use Rattle.im_tree_search.specs.Ranges.{IsParted}
use Rattle.im_tree_search.proofs.GoingBack.{last_before, last_none}
use Rattle.im_tree_search.proofs.chain_back.last_below.Goals as goal

pub returns-then-place-eq0-clause-none : goal.returns-then-place-eq0-clause-none
returns-then-place-eq0-clause-none c none = last_none c.args.key.now c.args.page.now.body.entries (subst (IsParted (From c.args.key.now) c.args.page.now.body.entries) c.if-place-eq0.true c.place_past-place.ensures.parted)

pub returns-clause-some : goal.returns-clause-some
returns-clause-some c =
    let place = c.place_past-place.result in
    let parted = c.place_past-place.ensures.parted in
    let some : 1 ≤ place = omega (arith, c.if-place-eq0.false) in
    (omega (arith, parted.inside, some), last_before c.args.key.now c.args.page.now.body.entries place some parted)
