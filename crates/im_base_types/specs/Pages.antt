-- What a page says: a header and a sorted list.
use Rattle.std.specs.Prelude.{ℕ, List, Bool}
use Rattle.im_base_types.specs.Keys.{Key}
use Rattle.im_base_types.specs.declared.page_kind.PageKind.{PageKind}

-- A key, and what stands with it: a row id in a leaf, a child's page number in an inner page.
abbrev pub Entry : Type 0
Entry = Key × ℕ

-- what a page says, its LSN aside
pub record Body : Type 0 where
  pub kind : PageKind
  pub level : ℕ
  -- a structure change that holds this page is under way
  pub marked : Bool
  pub prev : ℕ
  pub next : ℕ
  pub leftmost : ℕ
  -- the keys of these strictly rise
  pub entries : List Entry

-- a page: what it says, and the LSN of the last record applied to it
pub record Page : Type 0 where
  pub lsn : ℕ
  pub body : Body
