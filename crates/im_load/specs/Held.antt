-- Pages that are held, and what each may become.
use Rattle.std.specs.Prelude.{◌≡◌, ℕ, ◌+◌, ◌≤◌, List, length, slice_index_or}
use Rattle.im_base_types.specs.Pages.{Entry, Body, Page}
use Rattle.im_base_types.specs.declared.page_kind.PageKind.{PageKind}
use Rattle.im_theory_page.specs.Entry.{taken, size}
use Rattle.im_theory_page.specs.Header.{initial}
use Rattle.im_theory_page.specs.Page.{is_leaf_kind}
use Rattle.im_load.specs.Edge.{IsAboveAll}
use Rattle.im_load.specs.Steps.{with_entry_last}

-- a page, and its number
abbrev pub Numbered : Type 0
Numbered = ℕ × Page

-- the page with another body
abbrev pub with_new_body : Page → Body → Page
with_new_body p b = record p { body = b }

-- the page of a number with one entry more
abbrev pub with_last : Numbered → Entry → Numbered
with_last held e = (held.0, with_new_body held.1 (with_entry_last held.1.body e))

-- A page of this kind takes the entry after all others.
pub record TakesLast (kind : PageKind) (page : Page) (e : Entry) : Type 0 where
  pub kind_is : page.body.kind ≡ kind
  pub top : IsAboveAll e.0 page.body.entries
  pub keyed : 1 ≤ length e.0
  pub short : length e.0 ≤ 255
  pub room : taken (is_leaf_kind page.body.kind) page.body.entries + size (is_leaf_kind page.body.kind) e + 2 ≤ 4064

-- the held page at a place
abbrev pub held_page : List Numbered → ℕ → Numbered
held_page xs i = slice_index_or xs i (0, initial 0)
