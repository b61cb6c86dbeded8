use Rattle.std.proofs.Common.{◌≡◌, ◌+◌, ◌^◌, ◌<◌, ◌≤◌, ℕ, List, refl, sym, ap, subst, ◌∙◌}
use Rattle.im_base_types.specs.declared.fault.Fault.TheVariants.{Capacity, NotAStore}
use Rattle.im_base_types.specs.Pages.{Body, Page}
use Rattle.im_page_writer.proofs.Cited.{err_on, ends_own, never_refused, pages_still, refused, sound_on, sound_own, then, with_more}
use Rattle.im_smo_pages.specs.Bodies.{says}
use Rattle.im_smo_pages.specs.Images.{Numbered, put_image, without_image}
use Rattle.im_smo_pages.specs.Kept.{mild_to_take}
use Rattle.im_smo_pages.specs.Seen.{page_in, next_page, meta_behind, seen}
use Rattle.im_smo_pages.proofs.Results.{if_err, if_ok, ok_and}
use Rattle.im_smo_pages.proofs.Seeing.{page_says}
use Rattle.im_smo_pages.proofs.Taking.{first_known, meta_kind, meta_says, taken_kind, takes}
use Rattle.im_smo_pages.proofs.Goings.{mildly_taken, no_store, take_mildly}
use Rattle.im_smo_pages.proofs.writer_allocations.allocate.Goals as goal

pub returns-in_err-meta-clause-outcome : goal.returns-in_err-meta-clause-outcome
returns-in_err-meta-clause-outcome g c = refused g.D.Disk c.from_residual.result c.from_residual.ensures.1 (with_more g.D.Disk mild_to_take take_mildly c.in_err-meta.ensures.outcome)

pub returns-in_err-meta-clause-kept : goal.returns-in_err-meta-clause-kept
returns-in_err-meta-clause-kept g c pages spare tree = sound_on c.from_residual.result _ _ c.from_residual.ensures.1 (c.in_err-meta.ensures.kept pages tree.has)

pub returns-in_err-meta-clause-used_up : goal.returns-in_err-meta-clause-used_up
returns-in_err-meta-clause-used_up g c pages spare tree = never_refused g.D.Disk Capacity refl (λ is. let never : ⊥ = cc is in never) (λ is. let never : ⊥ = cc is in never) (λ is. let never : ⊥ = cc is in never) c.from_residual.result _ c.from_residual.ensures.1 c.in_err-meta.ensures.outcome

pub returns-in_err-number-clause-outcome : goal.returns-in_err-number-clause-outcome
returns-in_err-number-clause-outcome g c =
    refused g.D.Disk c.from_residual-in_err-number.result c.from_residual-in_err-number.ensures.1 (no_store g.D.Disk c.in_err-number.field-0.0 c.in_err-number.ensures.refused c.in_ok-meta.ensures.outcome)

pub returns-in_err-number-clause-kept : goal.returns-in_err-number-clause-kept
returns-in_err-number-clause-kept g c pages spare tree =
    let meta : Page = c.in_ok-meta.meta.value in
    let says : meta.body ≡ seen pages c.args.images.now 0 = ap (λ (p : Page). p.body) (c.in_ok-meta.ensures.kept pages tree.has) ∙ page_says pages c.args.images.now 0 in
    let known : 1 ≤ meta.body.prev → meta.body.next < meta.body.leftmost =
    subst (λ (b : Body). 1 ≤ b.prev → b.next < b.leftmost) (sym says) (first_known (seen pages c.args.images.now) spare tree.good) in
    let clash = c.in_err-number.ensures.known.1 (subst (λ (p : Page). 1 ≤ p.body.prev → p.body.next < p.body.leftmost) (sym c.deref.ensures) known) in
    let never : ⊥ = cc clash in
    absurd never

pub returns-in_err-number-clause-used_up : goal.returns-in_err-number-clause-used_up
returns-in_err-number-clause-used_up g c pages spare tree =
    err_on c.from_residual-in_err-number.result c.in_err-number.field-0.0
    (λ e. e ≡ Capacity → ((seen pages c.args.images.now 0).prev ≡ 0) × ((seen pages c.args.images.now 0).leftmost + 1 ≡ 2 ^ 32)) c.from_residual-in_err-number.ensures.1
    (λ is. absurd (let clash : NotAStore ≡ Capacity = sym c.in_err-number.ensures.refused ∙ is in let never : ⊥ = cc clash in never))

pub returns-in_err-page-clause-outcome : goal.returns-in_err-page-clause-outcome
returns-in_err-page-clause-outcome g c =
    refused g.D.Disk c.from_residual-in_err-page.result c.from_residual-in_err-page.ensures.1 (with_more g.D.Disk mild_to_take take_mildly (then g.D.Disk c.in_ok-meta.ensures.outcome c.in_err-page.ensures.outcome))

pub returns-in_err-page-clause-kept : goal.returns-in_err-page-clause-kept
returns-in_err-page-clause-kept g c pages spare tree =
    sound_on c.from_residual-in_err-page.result _ _ c.from_residual-in_err-page.ensures.1 (c.in_err-page.ensures.kept pages (pages_still g.D.Disk tree.has c.in_ok-meta.ensures.outcome))

pub returns-in_err-page-clause-used_up : goal.returns-in_err-page-clause-used_up
returns-in_err-page-clause-used_up g c pages spare tree = never_refused g.D.Disk Capacity refl (λ is. let never : ⊥ = cc is in never) (λ is. let never : ⊥ = cc is in never) (λ is. let never : ⊥ = cc is in never) c.from_residual-in_err-page.result _ c.from_residual-in_err-page.ensures.1 c.in_err-page.ensures.outcome

pub returns-clause-outcome : goal.returns-clause-outcome
returns-clause-outcome g c =
    ends_own g.D.Disk mild_to_take refl refl refl c.settle_taken.result (then g.D.Disk c.in_ok-meta.ensures.outcome c.in_ok-page.ensures.outcome) (mildly_taken c.settle_taken.result c.settle_taken.ensures.causes)

pub returns-clause-kept : goal.returns-clause-kept
returns-clause-kept g c pages spare tree =
    let images = c.args.images.now in
    let n = c.in_ok-number.number in
    let meta : Page = c.in_ok-meta.meta.value in
    let page : Page = c.in_ok-page.page.value in
    let one = c.in_ok-meta.ensures.kept pages tree.has in
    let two = c.in_ok-page.ensures.kept pages (pages_still g.D.Disk tree.has c.in_ok-meta.ensures.outcome) in
    let up = c.len-rises.ensures.rises in
    let number : n ≡ next_page meta.body = c.in_ok-number.ensures.number ∙ ap (λ (p : Page). next_page p.body) c.deref.ensures in
    let less : c.image.new.images ≡ without_image 0 images = c.in_ok-meta.ensures.images in
    let is : page ≡ page_in pages (without_image 0 images) n = two ∙ ap (λ (l : List Numbered). page_in pages l n) less in
    let left : c.image-2.new.images ≡ without_image n (without_image 0 images) = c.in_ok-page.ensures.images ∙ ap (λ (l : List Numbered). without_image n l) less in
    sound_own c.settle_taken.result _ _ (ok_and c.settle_taken.result _ _ c.settle_taken.ensures.number c.settle_taken.ensures.new)
    (c.settle_taken.ensures.sound (meta_kind pages images spare up tree.good n meta page one number is) (taken_kind pages images spare up tree.good n meta page one number is))
    (λ q both. takes pages images spare up tree.good q meta page one (both.0 ∙ number) (is ∙ ap (λ (m : ℕ). page_in pages (without_image 0 images) m) (sym both.0)) c.settle_taken.new.images
    (both.1 ∙ ap (λ (l : List Numbered). put_image 0 (says meta (meta_behind meta.body page.body)) (put_image n page l)) left
    ∙ ap (λ (m : ℕ). put_image 0 (says meta (meta_behind meta.body page.body)) (put_image m page (without_image m (without_image 0 images)))) (sym both.0)))

pub returns-clause-used_up : goal.returns-clause-used_up
returns-clause-used_up g c pages spare tree =
    let images = c.args.images.now in
    let n = c.in_ok-number.number in
    let meta : Page = c.in_ok-meta.meta.value in
    let page : Page = c.in_ok-page.page.value in
    let one = c.in_ok-meta.ensures.kept pages tree.has in
    let two = c.in_ok-page.ensures.kept pages (pages_still g.D.Disk tree.has c.in_ok-meta.ensures.outcome) in
    let up = c.len-rises.ensures.rises in
    let number : n ≡ next_page meta.body = c.in_ok-number.ensures.number ∙ ap (λ (p : Page). next_page p.body) c.deref.ensures in
    let is : page ≡ page_in pages (without_image 0 images) n = two ∙ ap (λ (l : List Numbered). page_in pages l n) c.in_ok-meta.ensures.images in
    if_err c.settle_taken.result _ _ c.settle_taken.ensures.used_up
    (λ e up_to same. subst (λ (m : Body). (m.prev ≡ 0) × (m.leftmost + 1 ≡ 2 ^ 32)) (meta_says pages images spare up tree.good n meta page one number is) (up_to same))

pub returns-clause-free : goal.returns-clause-free
returns-clause-free g c pages has =
    let page : Page = c.in_ok-page.page.value in
    let two = c.in_ok-page.ensures.kept pages (pages_still g.D.Disk has c.in_ok-meta.ensures.outcome) in
    let is : page ≡ page_in pages (without_image 0 c.args.images.now) c.in_ok-number.number =
    two ∙ ap (λ (l : List Numbered). page_in pages l c.in_ok-number.number) c.in_ok-meta.ensures.images in
    if_ok c.settle_taken.result _ _ (ok_and c.settle_taken.result _ _ c.settle_taken.ensures.number c.settle_taken.ensures.free)
    (λ q both. ap (λ (n : ℕ). (page_in pages (without_image 0 c.args.images.now) n).body.kind) both.0 ∙ ap (λ (p : Page). p.body.kind) (sym is) ∙ both.1)
