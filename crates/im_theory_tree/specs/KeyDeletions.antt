-- Deletions of pages without entries, over what each page holds before and after.
use Rattle.std.specs.Prelude.{◌≡◌, ℕ, zero, suc, ◌<◌, ◌≤◌, List, [], ◌∷◌, length, remove}
use Rattle.im_base_types.specs.Keys.{Key}
use Rattle.im_base_types.specs.declared.page_kind.PageKind.TheVariants.{Leaf}
use Rattle.im_theory_page.specs.Entry.{entry_at}
use Rattle.im_theory_tree.specs.Levels.{Pages, height}
use Rattle.im_theory_tree.specs.Same.{SameTree, SameLinks}
use Rattle.im_theory_tree.specs.Good.{times, IsGoodTree}
use Rattle.im_theory_tree.specs.Search.{IsOnWay}

-- page p of level h has no entry, its leftmost child has none, and so on down to a leaf
abbrev pub HasNone : Pages → ℕ → ℕ → Type 0
HasNone pages zero p = (pages p).entries ≡ []
HasNone pages (suc h) p = ((pages p).entries ≡ []) × HasNone pages h (pages p).leftmost

-- these pages, from the top down
abbrev pub chain_down : Pages → ℕ → ℕ → List ℕ
chain_down pages zero p = p ∷ []
chain_down pages (suc h) p = p ∷ chain_down pages h (pages p).leftmost

-- the leaf among them
abbrev pub leaf_down : Pages → ℕ → ℕ → ℕ
leaf_down pages zero p = p
leaf_down pages (suc h) p = leaf_down pages h (pages p).leftmost

-- a leaf goes out of the chain: its neighbours name each other, and all other pages but those that are gone keep their links
pub record Unlinks (pages new : Pages) (leaf : ℕ) (gone : List ℕ) : Type 0 where
  pub left : (x : ℕ) → x ≡ (pages leaf).prev → 1 ≤ x → ((new x).next ≡ (pages leaf).next) × ((new x).prev ≡ (pages x).prev)
  pub right : (x : ℕ) → x ≡ (pages leaf).next → 1 ≤ x → ((new x).prev ≡ (pages leaf).prev) × ((new x).next ≡ (pages x).next)
  pub links : (x : ℕ) → times x gone ≡ 0 → (x ≡ (pages leaf).prev → x ≡ 0) → (x ≡ (pages leaf).next → x ≡ 0) → SameLinks (pages x) (new x)

-- page p of level h, the child at place i of its parent's entries, goes with all under it
pub record DropsEntry (pages new : Pages) (spare : List ℕ) (h : ℕ) (key : Key) (parent p i : ℕ) : Type 0 where
  pub good : IsGoodTree pages spare
  pub way : IsOnWay pages (suc h) key parent
  pub within : i < length (pages parent).entries
  pub child : (entry_at (pages parent).entries i).1 ≡ p
  pub none : HasNone pages h p
  pub kind : (new parent).kind ≡ (pages parent).kind
  pub level : (new parent).level ≡ (pages parent).level
  pub leftmost : (new parent).leftmost ≡ (pages parent).leftmost
  pub entries : (new parent).entries ≡ remove (pages parent).entries i
  pub others : (x : ℕ) → times x (parent ∷ chain_down pages h p) ≡ 0 → SameTree (pages x) (new x)
  pub unlinks : Unlinks pages new (leaf_down pages h p) (chain_down pages h p)

-- page p of level h, the leftmost child of its parent, goes with all under it, and the child of the parent's first entry takes its place
pub record DropsLeftmost (pages new : Pages) (spare : List ℕ) (h : ℕ) (key : Key) (parent p : ℕ) : Type 0 where
  pub good : IsGoodTree pages spare
  pub way : IsOnWay pages (suc h) key parent
  pub within : 0 < length (pages parent).entries
  pub child : (pages parent).leftmost ≡ p
  pub none : HasNone pages h p
  pub kind : (new parent).kind ≡ (pages parent).kind
  pub level : (new parent).level ≡ (pages parent).level
  pub leftmost : (new parent).leftmost ≡ (entry_at (pages parent).entries 0).1
  pub entries : (new parent).entries ≡ remove (pages parent).entries 0
  pub others : (x : ℕ) → times x (parent ∷ chain_down pages h p) ≡ 0 → SameTree (pages x) (new x)
  pub unlinks : Unlinks pages new (leaf_down pages h p) (chain_down pages h p)

-- the root of level h + 1 is left without a child, and becomes an empty leaf
pub record DropsAll (pages new : Pages) (spare : List ℕ) (h : ℕ) : Type 0 where
  pub good : IsGoodTree pages spare
  pub tall : height pages ≡ suc h
  pub none : HasNone pages (suc h) 1
  pub kind : (new 1).kind ≡ Leaf
  pub level : (new 1).level ≡ 0
  pub entries : (new 1).entries ≡ []
  pub prev : (new 1).prev ≡ 0
  pub next : (new 1).next ≡ 0
  pub others : (x : ℕ) → times x (chain_down pages (suc h) 1) ≡ 0 → SameTree (pages x) (new x) × SameLinks (pages x) (new x)
