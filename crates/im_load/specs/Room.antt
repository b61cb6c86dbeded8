-- What a page has room for.
use Rattle.std.specs.Prelude.{◌+◌, ◌≤◌}
use Rattle.im_base_types.specs.Pages.{Page}
use Rattle.im_theory_page.specs.Entry.{taken, width}
use Rattle.im_theory_page.specs.Page.{is_leaf_kind}

-- An entry with the longest key has room.
abbrev pub FitsLongest : Page → Type 0
FitsLongest p = taken (is_leaf_kind p.body.kind) p.body.entries + (1 + 255 + width (is_leaf_kind p.body.kind) + 2) ≤ 4064
