use Rattle.im_theory_page.specs.Page.{is_leaf}
use Rattle.im_theory_page.proofs.EntryLemmas.{place_of_slots}
use Rattle.im_page.proofs.page.Page.find.Goals as goal

pub returns : goal.returns
returns c = rw (← c.self.view_is) (place_of_slots (is_leaf c.self.inside.bytes) c.self.inside.bytes c.args.key.now c.find.result c.find.ensures)
