use Rattle.std.proofs.Common.{◌∷◌, ◌++◌, []}
use Rattle.im_page_writer.proofs.Outcomes.{pages_still, sound_also, sound_on, then}
use Rattle.im_smo_pages.specs.Seen.{bodies, seen}
use Rattle.im_smo_drop_leaf.proofs.Leaving.{chain_keeps}
use Rattle.im_smo_drop_leaf.proofs.Plans.{may_take_out, not_root, planned, taken_out}
use Rattle.im_smo_drop_leaf.proofs.plan.drop_chain.Goals as goal

pub returns-in_err-take_out-clause-kept : goal.returns-in_err-take_out-clause-kept
returns-in_err-take_out-clause-kept g c pages now key has but is good at near other =
    let leaf = c.args.leaf in
    let hangs = not_root (bodies now) key leaf.parent leaf.place leaf.number c.args.above.now.items at other in
    let may = may_take_out pages c.args.images.now (bodies now) key leaf.parent leaf.place leaf.number c.args.above.now.items c.args.beside is good hangs near at.way in
    sound_on c.from_residual.result _ _ c.from_residual.ensures.1 (c.in_err-take_out.ensures.kept pages may.child has may.inner may.at may.are)

pub returns-clause-outcome : goal.returns-clause-outcome
returns-clause-outcome g c = then g.D.Disk c.in_ok-take_out.ensures.outcome c.give_back.ensures.outcome

pub returns-clause-kept : goal.returns-clause-kept
returns-clause-kept g c pages now key has but is good at near other =
    let leaf = c.args.leaf in
    let above = c.args.above.now.items in
    let first = c.args.images.now in
    let mid = c.take_out.new.images in
    let hangs = not_root (bodies now) key leaf.parent leaf.place leaf.number above at other in
    let may = may_take_out pages first (bodies now) key leaf.parent leaf.place leaf.number above c.args.beside is good hangs near at.way in
    let out = taken_out pages first (bodies now) key leaf.parent leaf.place leaf.number above c.args.beside is good hangs near mid (c.in_ok-take_out.ensures.kept pages may.child has may.inner may.at may.are) in
    sound_also c.give_back.result _ _
    (c.give_back.ensures.kept pages (record { has = pages_still g.D.Disk has c.in_ok-take_out.ensures.outcome; good = (chain_keeps (bodies now) (seen pages mid) (above ++ leaf.number ∷ []) out).0 }))
    (λ a given. planned pages now mid c.give_back.new.images leaf.number above but out given)
