use Rattle.std.proofs.Common.{false, subst}
use Rattle.std.specs.Bool.{IsTrue}
use Rattle.im_page_writer.proofs.Outcomes.{pages_still, sound_also, sound_on, then}
use Rattle.im_smo_pages.specs.Seen.{seen}
use Rattle.im_smo_drop_leaf.specs.Chains.{without_child}
use Rattle.im_smo_drop_leaf.proofs.Leaving.{beside_stay, out_only, out_by}
use Rattle.im_smo_drop_leaf.proofs.dropping.take_out.Goals as goal

pub returns-in_err-drop_child-clause-kept : goal.returns-in_err-drop_child-clause-kept
returns-in_err-drop_child-clause-kept g c pages child has inner at are = sound_on c.from_residual.result _ _ c.from_residual.ensures.1 (c.in_err-drop_child.ensures.kept pages child has inner at)

pub returns-then-is_only-clause-kept : goal.returns-then-is_only-clause-kept
returns-then-is_only-clause-kept g c pages child has inner at are =
    out_only (seen pages c.args.images.now) (seen pages c.drop_child.new.images) c.args.parent c.args.place c.args.beside.prev c.args.beside.next (c.is_only.ensures.0 c.if-is_only.true)
    (c.in_ok-drop_child.ensures.kept pages child has inner at)

pub returns-clause-outcome : goal.returns-clause-outcome
returns-clause-outcome g c = then g.D.Disk c.in_ok-drop_child.ensures.outcome c.unlink.ensures.outcome

pub returns-clause-kept : goal.returns-clause-kept
returns-clause-kept g c pages child has inner at are =
    let prev = c.args.beside.prev in
    let next = c.args.beside.next in
    let xs = c.args.images.now in
    let mid = c.drop_child.new.images in
    let one = c.in_ok-drop_child.ensures.kept pages child has inner at in
    let near = beside_stay (seen pages xs) (seen pages mid) c.args.parent (without_child (seen pages xs c.args.parent) c.args.place) prev next one inner are in
    sound_also c.unlink.result _ _ (c.unlink.ensures.kept pages (pages_still g.D.Disk has c.in_ok-drop_child.ensures.outcome) near)
    (λ a two. out_by (seen pages xs) (seen pages mid) (seen pages c.unlink.new.images) c.args.parent c.args.place prev next
    (λ only. let yes : IsTrue c.is_only.result = c.is_only.ensures.1 only in let never : IsTrue false = subst IsTrue c.if-is_only.false yes in absurd (cc never)) one two)
