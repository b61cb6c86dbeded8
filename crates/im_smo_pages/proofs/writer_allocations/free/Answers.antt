use Rattle.std.proofs.Common.{◌≡◌, List, ap, refl, ◌∙◌}
use Rattle.im_base_types.specs.declared.page_kind.PageKind.TheVariants.{Free}
use Rattle.im_base_types.specs.Pages.{Page}
use Rattle.im_theory_page.specs.Header.{empty_body}
use Rattle.im_page_writer.specs.Outcome.{mild}
use Rattle.im_page_writer.proofs.Outcomes.{ends_own, pages_still, refused, sound_done, sound_on, then}
use Rattle.im_smo_pages.specs.Bodies.{says, meta_with_first}
use Rattle.im_smo_pages.specs.Images.{Numbered, put_image, without_image}
use Rattle.im_smo_pages.proofs.Taking.{given_fewer, given_kind, gives}
use Rattle.im_smo_pages.proofs.Goings.{mildly}
use Rattle.im_smo_pages.proofs.writer_allocations.free.Goals as goal

pub returns-in_err-meta-clause-kept : goal.returns-in_err-meta-clause-kept
returns-in_err-meta-clause-kept g c pages spare tree = sound_on c.from_residual.result _ _ c.from_residual.ensures.1 (c.in_err-meta.ensures.kept pages tree.has)

pub returns-in_err-page-clause-kept : goal.returns-in_err-page-clause-kept
returns-in_err-page-clause-kept g c pages spare tree =
    sound_on c.from_residual-in_err-page.result _ _ c.from_residual-in_err-page.ensures.1 (c.in_err-page.ensures.kept pages (pages_still g.D.Disk tree.has c.in_ok-meta.ensures.outcome))

pub returns-in_err-page-clause-outcome : goal.returns-in_err-page-clause-outcome
returns-in_err-page-clause-outcome g c =
    refused g.D.Disk c.from_residual-in_err-page.result c.from_residual-in_err-page.ensures.1 (then g.D.Disk c.in_ok-meta.ensures.outcome c.in_err-page.ensures.outcome)

pub returns-clause-outcome : goal.returns-clause-outcome
returns-clause-outcome g c =
    ends_own g.D.Disk mild refl refl refl c.settle_given.result (then g.D.Disk c.in_ok-meta.ensures.outcome c.in_ok-page.ensures.outcome) (mildly c.settle_given.result c.settle_given.ensures.causes)

pub returns-clause-kept : goal.returns-clause-kept
returns-clause-kept g c pages spare tree =
    let images = c.args.images.now in
    let q = c.args.number in
    let meta : Page = c.in_ok-meta.meta.value in
    let page : Page = c.in_ok-page.page.value in
    let one = c.in_ok-meta.ensures.kept pages tree.has in
    let two = c.in_ok-page.ensures.kept pages (pages_still g.D.Disk tree.has c.in_ok-meta.ensures.outcome) in
    let up = c.len-rises.ensures.rises in
    let left : c.image-2.new.images ≡ without_image q (without_image 0 images) = c.in_ok-page.ensures.images ∙ ap (λ (l : List Numbered). without_image q l) c.in_ok-meta.ensures.images in
    sound_done c.settle_given.result _ _ c.settle_given.ensures.new
    (c.settle_given.ensures.sound (given_kind pages images spare up q tree.good meta page one) (given_fewer pages images spare up q tree.good meta page one))
    (λ new. gives pages images spare up q tree.good meta page one c.settle_given.new.images
    (new ∙ ap (λ (l : List Numbered). put_image 0 (says meta (meta_with_first meta.body q)) (put_image q (says page (empty_body Free 0 0 meta.body.next 0)) l)) left))
