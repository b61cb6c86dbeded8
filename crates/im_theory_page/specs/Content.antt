-- What every page's contents are, whatever bytes they came from.
use Rattle.std.specs.Prelude.{ℕ, ◌<◌, ◌≤◌, length}
use Rattle.im_base_types.specs.Pages.{Page}
use Rattle.im_theory_page.specs.Entry.{entry_at, Rises, taken}
use Rattle.im_theory_page.specs.Header.{FitsKind}
use Rattle.im_theory_page.specs.Page.{is_leaf_kind}

-- the header is that of its kind, keys rise and have 1 to 255 bytes, and cells and slots take at most 4,064 bytes
pub record IsContent (p : Page) : Type 0 where
  pub header : FitsKind p.body.kind p.body.level p.body.prev p.body.next p.body.leftmost (length p.body.entries)
  pub rises : Rises p.body.entries
  pub keyed : (i : ℕ) → i < length p.body.entries → 1 ≤ length (entry_at p.body.entries i).0
  pub short : (i : ℕ) → i < length p.body.entries → length (entry_at p.body.entries i).0 ≤ 255
  pub fits : taken (is_leaf_kind p.body.kind) p.body.entries ≤ 4064
