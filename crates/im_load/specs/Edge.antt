-- The pages at the right edge of a tree, and what a load keeps from one entry to the next.
use Rattle.std.specs.Prelude.{true, ◌≡◌, ◌⊎◌, ◌≤◌, ◌<◌, ℕ, suc, List, [], ◌∷◌, length, ◌==◌, if◌then◌else◌}
use Rattle.im_base_types.specs.Keys.{Key, IsBelow}
use Rattle.im_base_types.specs.Pages.{Entry, Body}
use Rattle.im_base_types.specs.declared.page_kind.PageKind.TheVariants.{Leaf}
use Rattle.im_theory_page.specs.Split.{LacksRoom}
use Rattle.im_theory_tree.specs.Levels.{Pages, height, walk}
use Rattle.im_theory_tree.specs.Good.{AllOf, IsGoodTree}

-- the last child of an inner page: that of its last entry, or the leftmost one
abbrev pub last_value : ℕ → List Entry → ℕ
last_value p [] = p
last_value p (e ∷ es) = last_value e.1 es

abbrev pub last_child : Body → ℕ
last_child b = last_value b.leftmost b.entries

-- The pages at the right edge, by their levels: page 1 at the top, and each the last child of the one above it.
pub record IsEdge (pages : Pages) (at : ℕ → ℕ) : Type 0 where
  pub root : at (height pages) ≡ 1
  pub down : (k : ℕ) → k < height pages → last_child (pages (at (suc k))) ≡ at k

-- the same pages, but for another one at a level
abbrev pub moved : (ℕ → ℕ) → ℕ → ℕ → ℕ → ℕ
moved at k q j = if j == k then q else at j

-- the same pages, but page 1 one level up, and another one where it stood
abbrev pub risen : (ℕ → ℕ) → ℕ → ℕ → ℕ → ℕ
risen at h r = moved (moved at h r) (suc h) 1

-- the key is above all of these
abbrev pub IsAboveAll : Key → List Entry → Type 0
IsAboveAll key es = AllOf (λ e. IsBelow e.0 key) es

-- A good tree of these entries, beside spare pages, whose right edge is known: no page is free, and its last leaf has an entry, unless it is the root.
pub record Stands (pages : Pages) (at : ℕ → ℕ) (spare : List ℕ) (es : List Entry) : Type 0 where
  pub good : IsGoodTree pages spare
  pub edge : IsEdge pages at
  pub walks : walk pages ≡ es
  pub none_free : (pages 0).prev ≡ 0
  pub some : (height pages ≡ 0) ⊎ (1 ≤ length (pages (at 0)).entries)

-- Each leaf but the last lacks room for an entry with the longest key: of the 4,064 bytes that a page has for cells and slots its entries take more than 3,798.
abbrev pub AreDense : Pages → Type 0
AreDense pages = (x : ℕ) → (pages x).kind ≡ Leaf → 1 ≤ (pages x).next → LacksRoom true (pages x).entries
