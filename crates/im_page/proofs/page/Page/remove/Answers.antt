use Rattle.std.proofs.Common.{ap, ◌∙◌}
use Rattle.im_theory_page.specs.Page.{is_leaf, said_by, with_entries}
use Rattle.im_theory_page.proofs.EntryLemmas.{length-entries_of}
use Rattle.im_page.proofs.FieldLemmas.{entries_written}
use Rattle.im_page.proofs.page.Page.remove.Goals as goal

pub remove_cell-requires-clause-place : goal.remove_cell-requires-clause-place
remove_cell-requires-clause-place c = rw (← length-entries_of (is_leaf c.self.inside.bytes) c.self.inside.bytes) (rw (← c.self.view_is) at c.requires.place)

pub invariant_of-self : goal.invariant_of-self
invariant_of-self c =
    (entries_written c.self.inside.bytes c.remove_cell.new.bytes c.self.invariant (rw (← c.self.view_is) at c.requires.holds) c.remove_cell.ensures.packed c.remove_cell.ensures.head
    c.remove_cell.ensures.links).0

pub returns : goal.returns
returns c =
    rw (← c.self.view_is)
    ((entries_written c.self.inside.bytes c.remove_cell.new.bytes c.self.invariant (rw (← c.self.view_is) at c.requires.holds) c.remove_cell.ensures.packed c.remove_cell.ensures.head
    c.remove_cell.ensures.links).1 ∙ ap (with_entries (said_by c.self.inside.bytes)) c.remove_cell.ensures.entries)
