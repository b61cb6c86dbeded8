use Rattle.std.proofs.Common.{ℕ, List}
use Rattle.im_theory_page.specs.Form.{entries_of}
use Rattle.im_theory_page.specs.Page.{is_leaf}
use Rattle.im_theory_page.proofs.EntryLemmas.{leaf_kind}
use Rattle.im_theory_page.proofs.SplitLemmas.{right_has_room, both_parts, taken_fits}
use Rattle.im_page.proofs.page.Page.split_point.Goals as goal

pub returns-clause-right : goal.returns-clause-right
returns-clause-right c =
    let bytes : List ℕ = c.self.inside.bytes in
    rw (← c.self.view_is, leaf_kind)
    (right_has_room c.args.bound (is_leaf bytes) (entries_of (is_leaf bytes) bytes) c.split_point.result c.requires c.split_point.ensures
    (taken_fits (is_leaf bytes) bytes c.self.invariant.packed) c.law_keys_are_short.ensures)

pub returns-clause-parts : goal.returns-clause-parts
returns-clause-parts c =
    let bytes : List ℕ = c.self.inside.bytes in
    rw (← c.self.view_is, leaf_kind)
    (both_parts c.args.bound (is_leaf bytes) (entries_of (is_leaf bytes) bytes) c.split_point.result c.requires c.split_point.ensures c.law_keys_are_short.ensures)
