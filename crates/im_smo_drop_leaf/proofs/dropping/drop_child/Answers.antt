use Rattle.std.proofs.Common.{◌≡◌, refl, sym, subst}
use Rattle.im_base_types.specs.Pages.{Body, Page}
use Rattle.im_base_types.specs.declared.page_kind.PageKind.TheVariants.{Inner}
use Rattle.im_page_writer.specs.Outcome.{mild}
use Rattle.im_page_writer.proofs.Outcomes.{ends_own, sound_done, sound_on}
use Rattle.im_smo_pages.specs.Seen.{seen}
use Rattle.im_smo_pages.proofs.Goings.{mildly}
use Rattle.im_tree_search.specs.Children.{StandsAt}
use Rattle.im_smo_drop_leaf.specs.Chains.{without_child}
use Rattle.im_smo_drop_leaf.proofs.Leaving.{edited, says_seen}
use Rattle.im_smo_drop_leaf.proofs.dropping.drop_child.Goals as goal

pub returns-in_err-page-clause-kept : goal.returns-in_err-page-clause-kept
returns-in_err-page-clause-kept g c pages child has inner at = sound_on c.from_residual.result _ _ c.from_residual.ensures.1 (c.in_err-page.ensures.kept pages has)

pub returns-clause-outcome : goal.returns-clause-outcome
returns-clause-outcome g c = ends_own g.D.Disk mild refl refl refl c.put_parent.result c.in_ok-page.ensures.outcome (mildly c.put_parent.result c.put_parent.ensures.causes)

pub returns-clause-kept : goal.returns-clause-kept
returns-clause-kept g c pages child has inner at =
    let is = c.in_ok-page.ensures.kept pages has in
    let xs = c.args.images.now in
    let page : Page = c.in_ok-page.page.value in
    let says : page.body ≡ seen pages xs c.args.parent = says_seen pages xs c.args.parent page is in
    sound_done c.put_parent.result _ _ c.put_parent.ensures.new
    (c.put_parent.ensures.sound child (subst (λ (x : Body). x.kind ≡ Inner) (sym says) inner) (subst (λ (x : Body). StandsAt x c.args.place child) (sym says) at))
    (λ new. edited pages xs c.image.new.images c.put_parent.new.images c.args.parent page (λ (x : Body). without_child x c.args.place) c.law_rise.ensures is c.in_ok-page.ensures.images new)
