use Rattle.std.proofs.Common.{◌≡◌, ◌≤◌, refl, sym, subst, arith}
use Rattle.im_base_types.specs.Pages.{Body, Page}
use Rattle.im_base_types.specs.declared.page_kind.PageKind.TheVariants.{Leaf}
use Rattle.im_page_writer.specs.Outcome.{mild}
use Rattle.im_page_writer.proofs.Outcomes.{ends_own, idle, sound_done, sound_on}
use Rattle.im_smo_pages.specs.Seen.{seen}
use Rattle.im_smo_pages.proofs.Goings.{mildly}
use Rattle.im_smo_drop_leaf.specs.Chains.{with_link}
use Rattle.im_smo_drop_leaf.proofs.Leaving.{edited, says_seen, linked_is, linked_none}
use Rattle.im_smo_drop_leaf.proofs.dropping.set_link.Goals as goal

pub returns-then-number-eq0-clause-outcome : goal.returns-then-number-eq0-clause-outcome
returns-then-number-eq0-clause-outcome g c = idle g.D.Disk g.met.D.Disk.only_now c.args.writer.now c.args.disk.now c.requires.working c.requires.ready

pub returns-then-number-eq0-clause-kept : goal.returns-then-number-eq0-clause-kept
returns-then-number-eq0-clause-kept g c pages has is_leaf = linked_none (seen pages c.args.images.now) c.args.side c.args.number c.args.leaf c.if-number-eq0.true

pub returns-in_err-page-clause-kept : goal.returns-in_err-page-clause-kept
returns-in_err-page-clause-kept g c pages has is_leaf = sound_on c.from_residual.result _ _ c.from_residual.ensures.1 (c.in_err-page.ensures.kept pages has)

pub returns-clause-outcome : goal.returns-clause-outcome
returns-clause-outcome g c = ends_own g.D.Disk mild refl refl refl c.put_linked.result c.in_ok-page.ensures.outcome (mildly c.put_linked.result c.put_linked.ensures.causes)

pub returns-clause-kept : goal.returns-clause-kept
returns-clause-kept g c pages has is_leaf =
    let is = c.in_ok-page.ensures.kept pages has in
    let xs = c.args.images.now in
    let n = c.args.number in
    let page : Page = c.in_ok-page.page.value in
    let some : 1 ≤ n = omega (arith, c.if-number-eq0.false) in
    let says : page.body ≡ seen pages xs n = says_seen pages xs n page is in
    sound_done c.put_linked.result _ _ c.put_linked.ensures.new (c.put_linked.ensures.sound (subst (λ (x : Body). x.kind ≡ Leaf) (sym says) (is_leaf some)))
    (λ new. linked_is (seen pages xs) (seen pages c.put_linked.new.images) c.args.side n c.args.leaf some
    (edited pages xs c.image.new.images c.put_linked.new.images n page (λ (x : Body). with_link x c.args.side c.args.leaf) c.law_rise.ensures is c.in_ok-page.ensures.images new))
