use Rattle.std.proofs.Common.{sym, ◌∙◌}
use Rattle.im_theory_page.specs.Page.{is_leaf}
use Rattle.im_theory_page.proofs.EntryLemmas.{length-entries_of}
use Rattle.im_page.proofs.page.Page.len.Goals as goal

pub returns : goal.returns
returns c = rw (← c.self.view_is) (c.get_u16.ensures.value ∙ sym (length-entries_of (is_leaf c.self.inside.bytes) c.self.inside.bytes))
