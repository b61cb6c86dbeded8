use Rattle.im_theory_page.proofs.FormLemmas.{page_of_form}
use Rattle.im_page.proofs.page.Page.bytes.Goals as goal

pub returns-clause-page : goal.returns-clause-page
returns-clause-page c = rw (← c.self.view_is) (page_of_form c.self.inside.bytes c.self.invariant)
