use Rattle.std.proofs.Common.{ap, sym, ◌∙◌}
use Rattle.im_theory_page.specs.Page.{is_leaf}
use Rattle.im_base_types.specs.Pages.{Entry}
use Rattle.im_theory_page.proofs.EntryLemmas.{length-entries_of, entry_at-entries_of}
use Rattle.im_page.proofs.page.Page.value.Goals as goal

pub value-requires-clause-place : goal.value-requires-clause-place
value-requires-clause-place c = rw (← length-entries_of (is_leaf c.self.inside.bytes) c.self.inside.bytes) (rw (← c.self.view_is) at c.requires)

pub returns-clause-value : goal.returns-clause-value
returns-clause-value c =
    rw (← c.self.view_is)
    (c.value.ensures.value ∙ ap (λ (e : Entry). e.1) (sym (entry_at-entries_of (is_leaf c.self.inside.bytes) c.self.inside.bytes c.args.i
    (rw (← length-entries_of (is_leaf c.self.inside.bytes) c.self.inside.bytes) (rw (← c.self.view_is) at c.requires)))))
