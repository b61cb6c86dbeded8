-- Where the leaf of a key is found.
use Rattle.std.specs.Prelude.{◌≡◌, ◌<◌, ◌≤◌, ◌⊎◌, ℕ, true, List, [], length, Option, None, IfSome}
use Rattle.im_base_types.specs.declared.page_kind.PageKind.TheVariants.{Leaf, Meta}
use Rattle.im_base_types.specs.Keys.{Key, IsBelow}
use Rattle.im_base_types.specs.Pages.{Body, Entry}
use Rattle.im_base_disk.specs.declared.disk.Disk.{Ghosts}
use Rattle.im_theory_page.specs.Entry.{entry_at}
use Rattle.im_theory_page.specs.Page.{is_leaf_kind}
use Rattle.im_theory_page.specs.Split.{HasRoom}
use Rattle.im_page_pool.specs.declared.frame.Frame.{Frame}
use Rattle.im_page_pool.specs.Pool.{PoolView, page_at}
use Rattle.im_page_writer.specs.declared.page_writer.PageWriter.{PageWriter}
use Rattle.im_page_writer.specs.Outcome.{AllPages, AreLoaded, HasPages}
use Rattle.im_theory_tree.specs.Levels.{Pages}
use Rattle.im_theory_tree.specs.Good.{IsGoodTree}
use Rattle.im_tree_search.specs.declared.change_beside.Beside.{Beside}
use Rattle.im_tree_search.specs.Levels.{bodies_of}
use Rattle.im_tree_search.specs.Sights.{is_done, IsWayMade}

-- ---- what a page says of a key

-- Page 0 says that there is a page of this number.
pub record CountsPage (meta : Body) (p : ℕ) : Type 0 where
  pub kind : meta.kind ≡ Meta
  pub below : p < meta.leftmost

-- The page is below the page count, and a leaf.
pub record IsKnownLeaf (pages : Pages) (p : ℕ) : Type 0 where
  pub leaf : (pages p).kind ≡ Leaf
  pub level : (pages p).level ≡ 0
  pub counted : p < (pages 0).leftmost

-- One of these entries has the key.
pub record HasKey (es : List Entry) (key : Key) : Type 0 where
  pub at : ℕ
  pub within : at < length es
  pub same : (entry_at es at).0 ≡ key

-- One of these entries has a smaller key, and one a greater.
pub record Surrounds (es : List Entry) (key : Key) : Type 0 where
  pub low : ℕ
  pub high : ℕ
  pub low_within : low < length es
  pub high_within : high < length es
  pub smaller : IsBelow (entry_at es low).0 key
  pub greater : IsBelow key (entry_at es high).0

-- The page has room for a key that it lacks, between two of its keys.
pub record HasGap (page : Body) (key : Key) : Type 0 where
  pub short : length key ≤ 255
  pub room : HasRoom (is_leaf_kind page.kind) page.entries (key, 0)
  pub absent : HasKey page.entries key → ⊥
  pub between : Surrounds page.entries key

-- The page is held, is the store's, and has this property.
pub record IsHeldPage (pages : AllPages) (P : ℕ → Type 0) (pool : PoolView) (frame : Frame) : Type 0 where
  pub page : page_at pool frame.number ≡ pages frame.number
  pub has : P frame.number

-- and so is the page that is answered, if there is one
abbrev pub IfHeldPage : AllPages → (ℕ → Type 0) → PoolView → Option Frame → Type 0
IfHeldPage pages P pool found = IfSome found (IsHeldPage pages P pool)

-- and there is one wherever this is so
pub record FindsPage (pages : AllPages) (P : ℕ → Type 0) (Wanted : Type 0) (pool : PoolView) (found : Option Frame) : Type 0 where
  pub held : IfHeldPage pages P pool found
  pub none : found ≡ None → Wanted → ⊥

-- ---- what the search asks

-- The writer has these pages, all with their copies, and they are a good tree: each page below the page count is of the tree or free.
pub record HasWholeTree {D : Type 0} (d : Ghosts D) (pages : AllPages) (w : PageWriter) (disk : D) : Type 0 where
  pub has : HasPages d AreLoaded pages w disk
  pub good : IsGoodTree (bodies_of pages) []

-- why the leaf of a key is hidden: the page that is looked at first is made, or it is not known as that leaf, and a page on the key's way is made
abbrev pub IsPlaceMade : Pages → Beside → ℕ → Key → Type 0 → Type 0
IsPlaceMade pages beside page key Known = (is_done beside page ≡ true) ⊎ ((Known → ⊥) × IsWayMade pages beside key)
