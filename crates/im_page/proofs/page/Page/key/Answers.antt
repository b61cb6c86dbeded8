use Rattle.std.proofs.Common.{sym, ◌∙◌}
use Rattle.im_theory_page.specs.Page.{is_leaf}
use Rattle.im_theory_page.proofs.EntryLemmas.{length-entries_of, key-entries_of}
use Rattle.im_page.proofs.page.Page.key.Goals as goal

pub key-requires-clause-place : goal.key-requires-clause-place
key-requires-clause-place c = rw (← length-entries_of (is_leaf c.self.inside.bytes) c.self.inside.bytes) (rw (← c.self.view_is) at c.requires)

pub returns-clause-key : goal.returns-clause-key
returns-clause-key c =
    rw (← c.self.view_is)
    (c.key.ensures.key ∙ sym (key-entries_of (is_leaf c.self.inside.bytes) c.self.inside.bytes c.args.i
    (rw (← length-entries_of (is_leaf c.self.inside.bytes) c.self.inside.bytes) (rw (← c.self.view_is) at c.requires))))
