use Rattle.im_theory_page.proofs.ContentLemmas.{content_from}
use Rattle.im_page.proofs.page.Page.law_content.Goals as goal

pub returns : goal.returns
returns c = rw (← c.self.view_is) (content_from c.self.inside.bytes c.self.invariant c.law_keys_are_short.ensures)
