use Rattle.std.proofs.Common.{◌≡◌, slice_range, sym, ap, ◌∙◌}
use Rattle.im_theory_page.specs.Form.{entries_of}
use Rattle.im_theory_page.specs.Page.{is_leaf, with_entries, said_by}
use Rattle.im_theory_page.proofs.EntryLemmas.{length-entries_of, same_leaf}
use Rattle.im_page.proofs.FieldLemmas.{entries_written}
use Rattle.im_page.proofs.page.Page.copy_entries.Goals as goal

pub copy_cells-requires-clause-within : goal.copy_cells-requires-clause-within
copy_cells-requires-clause-within c = rw (← length-entries_of (is_leaf c.from.inside.bytes) c.from.inside.bytes) (rw (← c.from.view_is) at c.requires.within)

pub invariant_of-self : goal.invariant_of-self
invariant_of-self c =
    (entries_written c.self.inside.bytes c.copy_cells.new.bytes c.self.invariant (rw (← c.self.view_is) at c.requires.holds) c.copy_cells.ensures.packed c.copy_cells.ensures.head
    c.copy_cells.ensures.links).0

pub returns : goal.returns
returns c =
    let holds = rw (← c.self.view_is) at c.requires.holds in
    let kind = rw (← c.self.view_is, ← c.from.view_is) at c.requires.same in
    let leaf : is_leaf c.self.inside.bytes ≡ is_leaf c.from.inside.bytes = sym (same_leaf c.from.inside.bytes c.self.inside.bytes kind) in
    rw (← c.self.view_is, ← c.from.view_is)
    ((entries_written c.self.inside.bytes c.copy_cells.new.bytes c.self.invariant holds c.copy_cells.ensures.packed c.copy_cells.ensures.head c.copy_cells.ensures.links).1
    ∙ ap (with_entries (said_by c.self.inside.bytes)) (c.copy_cells.ensures.entries ∙ ap (λ l. slice_range (entries_of l c.from.inside.bytes) c.args.low c.args.high) leaf))
