use Rattle.std.proofs.Common.{◌≤◌}
use Rattle.im_page_writer.proofs.Outcomes.{pages_still, sound_also, sound_on, then}
use Rattle.im_smo_pages.specs.Seen.{seen}
use Rattle.im_smo_drop_leaf.proofs.Leaving.{kind_linked, unlinked_by}
use Rattle.im_smo_drop_leaf.proofs.dropping.unlink.Goals as goal

pub returns-in_err-set_link-clause-kept : goal.returns-in_err-set_link-clause-kept
returns-in_err-set_link-clause-kept g c pages has are = sound_on c.from_residual.result _ _ c.from_residual.ensures.1 (c.in_err-set_link.ensures.kept pages has are.prev_kind)

pub returns-clause-outcome : goal.returns-clause-outcome
returns-clause-outcome g c = then g.D.Disk c.in_ok-set_link.ensures.outcome c.set_link-2.ensures.outcome

pub returns-clause-kept : goal.returns-clause-kept
returns-clause-kept g c pages has are =
    let prev = c.args.beside.prev in
    let next = c.args.beside.next in
    let xs = c.args.images.now in
    let mid = c.set_link.new.images in
    let one = c.in_ok-set_link.ensures.kept pages has are.prev_kind in
    let leaf = λ (some : 1 ≤ next). kind_linked (seen pages xs) (seen pages mid) prev next next one (are.next_kind some) in
    sound_also c.set_link-2.result _ _ (c.set_link-2.ensures.kept pages (pages_still g.D.Disk has c.in_ok-set_link.ensures.outcome) leaf)
    (λ a two. unlinked_by (seen pages xs) (seen pages mid) (seen pages c.set_link-2.new.images) prev next one two)
