use Rattle.std.proofs.Common.{◌≡◌, true, refl}
use Rattle.im_theory_page.proofs.FormLemmas.{page_of_form, no_page}
use Rattle.im_page.proofs.page.Page.read.Goals.{then-bytes-ne-PAGE_SIZE-via-then-bytes-ne-PAGE_SIZE, then-bytes-ne-PAGE_SIZE-via-else-bytes-ne-PAGE_SIZE+then-not-is_form}
use Rattle.im_page.proofs.page.Page.read.Goals as goal

pub returns-then-bytes-ne-PAGE_SIZE-clause-none : goal.returns-then-bytes-ne-PAGE_SIZE-clause-none
returns-then-bytes-ne-PAGE_SIZE-clause-none c =
    no_page c.args.bytes.now (λ h. elim c.then-bytes-ne-PAGE_SIZE.branch [
      | then-bytes-ne-PAGE_SIZE-via-then-bytes-ne-PAGE_SIZE w ↦ w.if-bytes-ne-PAGE_SIZE.true h.packed.len
      | then-bytes-ne-PAGE_SIZE-via-else-bytes-ne-PAGE_SIZE+then-not-is_form w ↦ (let t : w.is_form.result ≡ true = w.is_form.ensures.1 h in cc)
    ])

pub returns-clause-page : goal.returns-clause-page
returns-clause-page c = rw c.copy_from_slice.ensures.after (page_of_form c.args.bytes.now (c.if-not-is_form.ensures.0 refl))
