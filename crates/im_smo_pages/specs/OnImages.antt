-- Steps of a structure change on its images, over pages as they were before it.
use Rattle.std.specs.Prelude.{◌≡◌, ℕ, ◌≤◌, Bool, false, List}
use Rattle.im_base_types.specs.Pages.{Body}
use Rattle.im_base_types.specs.declared.page_kind.PageKind.TheVariants.{Leaf, Inner}
use Rattle.im_theory_page.specs.Entry.{Rises}
use Rattle.im_theory_tree.specs.Levels.{Pages}
use Rattle.im_smo_pages.specs.Parts.{SplitsAt}
use Rattle.im_smo_pages.specs.Images.{Numbered, held, Has, KeepsAll}
use Rattle.im_smo_pages.specs.Changed.{SamePages, leaf_parted_pages, inner_split_pages, root_leaf_split_pages, root_inner_split_pages, free_taken_pages, count_taken_pages}

-- leaf p, which held this body, is split at place n; the leaf after it is not told of q yet
pub record PartsLeaf (dense : Bool) (old new : List Numbered) (page : Body) (parent p q n : ℕ) : Type 0 where
  pub at : SplitsAt dense Leaf page n
  pub kept : KeepsAll old new
  pub left : Has new p
  pub right : Has new q
  pub rises : (pages : Pages) → Rises (held pages old parent).entries
  pub pages : (pages : Pages) → held pages old p ≡ page → SamePages (held pages new) (leaf_parted_pages (held pages old) parent p q n)

-- inner page p, which held this body, is split at place n
pub record PartsInner (old new : List Numbered) (page : Body) (parent p q n : ℕ) : Type 0 where
  pub at : SplitsAt false Inner page n
  pub kept : KeepsAll old new
  pub left : Has new p
  pub right : Has new q
  pub rises : (pages : Pages) → Rises (held pages old parent).entries
  pub pages : (pages : Pages) → held pages old p ≡ page → SamePages (held pages new) (inner_split_pages (held pages old) parent p q n)

-- the root, a leaf that held this body, is split at place n
pub record PartsRootLeaf (dense : Bool) (old new : List Numbered) (page : Body) (l r n : ℕ) : Type 0 where
  pub at : SplitsAt dense Leaf page n
  pub kept : KeepsAll old new
  pub root : Has new 1
  pub left : Has new l
  pub right : Has new r
  pub pages : (pages : Pages) → held pages old 1 ≡ page → SamePages (held pages new) (root_leaf_split_pages (held pages old) l r n)

-- the root, an inner page that held this body, is split at place n
pub record PartsRootInner (old new : List Numbered) (page : Body) (l r n : ℕ) : Type 0 where
  pub at : SplitsAt false Inner page n
  pub kept : KeepsAll old new
  pub root : Has new 1
  pub left : Has new l
  pub right : Has new r
  pub pages : (pages : Pages) → held pages old 1 ≡ page → SamePages (held pages new) (root_inner_split_pages (held pages old) l r n)

-- what the pages hold becomes what the step makes of it
pub record Becomes (old new : List Numbered) (step : Pages → Pages) : Type 0 where
  pub kept : KeepsAll old new
  pub pages : (pages : Pages) → SamePages (held pages new) (step (held pages old))

-- page q, the first free one, which holds this body, is free no more
pub record TakesFirst (old new : List Numbered) (page : Body) (q : ℕ) : Type 0 where
  pub kept : KeepsAll old new
  pub number : (pages : Pages) → q ≡ (held pages old 0).next
  pub some : (pages : Pages) → 1 ≤ (held pages old 0).prev
  pub pages : (pages : Pages) → held pages old q ≡ page → SamePages (held pages new) (free_taken_pages (held pages old))

-- page q, of the number that the page count was, is there now, as no page was free
pub record TakesNext (old new : List Numbered) (q : ℕ) : Type 0 where
  pub becomes : Becomes old new count_taken_pages
  pub number : (pages : Pages) → q ≡ (held pages old 0).leftmost
  pub none : (pages : Pages) → (held pages old 0).prev ≡ 0
