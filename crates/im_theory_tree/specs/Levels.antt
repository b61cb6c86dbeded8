-- A tree of pages, as the levels of nodes under its root.
use Rattle.std.specs.Prelude.{ℕ, zero, suc, List, [], ◌∷◌, ◌++◌, map, Option, Some, None}
use Rattle.std.specs.List.{flat_map}
use Rattle.im_base_types.specs.Keys.{Key}
use Rattle.im_base_types.specs.Pages.{Entry, Body}

-- what each page says
abbrev pub Pages : Type 0
Pages = ℕ → Body

-- A page in the tree, and the separator before it: the keys under it are at or above that. The first of a level has none.
pub record Node : Type 0 where
  pub bound : Option Key
  pub page : ℕ

-- the node of an entry of an inner page
abbrev pub child_of : Entry → Node
child_of e = record { bound = Some e.0; page = e.1 }

-- the children of an inner page
abbrev pub children : Pages → Node → List Node
children pages n = record { bound = n.bound; page = (pages n.page).leftmost } ∷ map child_of (pages n.page).entries

-- the level below
abbrev pub below : Pages → List Node → List Node
below pages ns = flat_map (children pages) ns

-- the leaves under nodes of level h
abbrev pub leaves_under : Pages → ℕ → List Node → List Node
leaves_under pages zero ns = ns
leaves_under pages (suc h) ns = leaves_under pages h (below pages ns)

-- the entries of leaves, left to right
abbrev pub entries_in : Pages → List Node → List Entry
entries_in pages ns = flat_map (λ n. (pages n.page).entries) ns

-- the pages of a tree under nodes of level h
abbrev pub pages_under : Pages → ℕ → List Node → List ℕ
pages_under pages zero ns = map (λ n. n.page) ns
pages_under pages (suc h) ns = map (λ n. n.page) ns ++ pages_under pages h (below pages ns)

-- page 1 alone
abbrev pub the_root : List Node
the_root = record { bound = None; page = 1 } ∷ []

-- how many levels stand under the root
abbrev pub height : Pages → ℕ
height pages = (pages 1).level

-- the walk: the entries of the leaves under page 1, left to right
abbrev pub walk : Pages → List Entry
walk pages = entries_in pages (leaves_under pages (height pages) the_root)

-- the pages of nodes
abbrev pub page_numbers : List Node → List ℕ
page_numbers ns = map (λ n. n.page) ns

-- the nodes d levels below
abbrev pub descend : Pages → ℕ → List Node → List Node
descend pages zero ns = ns
descend pages (suc d) ns = descend pages d (below pages ns)

-- d levels above level h
abbrev pub lifted : ℕ → ℕ → ℕ
lifted zero h = h
lifted (suc d) h = suc (lifted d h)
