-- Pages without entries that leave the tree.
use Rattle.std.specs.Prelude.{◌≡◌, ℕ, zero, suc, ◌≤◌, List, [], ◌∷◌, ◌++◌, None}
use Rattle.im_theory_tree.specs.Good.{times, IsGoodTree}
use Rattle.im_theory_tree.specs.Levels.{Pages, Node, children, pages_under, the_root, height, descend, lifted}
use Rattle.im_theory_tree.specs.Same.{SameTree, SameLinks}
use Rattle.im_base_types.specs.declared.page_kind.PageKind.TheVariants.{Leaf}

-- Page c has no entry, and under it stands one page a level, down to a leaf without entries.
abbrev pub IsBare : Pages → ℕ → Node → Type 0
IsBare pages zero c = (pages c.page).entries ≡ []
IsBare pages (suc h) c = ((pages c.page).entries ≡ []) × IsBare pages h (record { bound = c.bound; page = (pages c.page).leftmost })

-- that leaf
abbrev pub bare_leaf : Pages → ℕ → Node → Node
bare_leaf pages zero c = c
bare_leaf pages (suc h) c = bare_leaf pages h (record { bound = c.bound; page = (pages c.page).leftmost })

-- such a page of level h goes, from after another child of its parent
pub record DropsChildOf (pages new : Pages) (spare : List ℕ) (d h : ℕ) (a b : List Node) (parent : Node) (before after : List Node) (last c : Node) : Type 0 where
  pub good : IsGoodTree pages spare
  pub tall : height pages ≡ lifted d (suc h)
  pub at : descend pages d the_root ≡ a ++ parent ∷ b
  pub was : children pages parent ≡ before ++ last ∷ c ∷ after
  pub now : children new parent ≡ before ++ last ∷ after
  pub parent_kind : (new parent.page).kind ≡ (pages parent.page).kind
  pub parent_level : (new parent.page).level ≡ (pages parent.page).level
  pub bare : IsBare pages h c
  pub others : (x : ℕ) → times x (parent.page ∷ pages_under pages h (c ∷ [])) ≡ 0 → SameTree (pages x) (new x)
  pub left : (x : ℕ) → x ≡ (pages (bare_leaf pages h c).page).prev → 1 ≤ x → ((new x).next ≡ (pages (bare_leaf pages h c).page).next) × ((new x).prev ≡ (pages x).prev)
  pub right : (x : ℕ) → x ≡ (pages (bare_leaf pages h c).page).next → 1 ≤ x → ((new x).prev ≡ (pages (bare_leaf pages h c).page).prev) × ((new x).next ≡ (pages x).next)
  pub links : (x : ℕ) → times x (pages_under pages h (c ∷ [])) ≡ 0 → (x ≡ (pages (bare_leaf pages h c).page).prev → x ≡ 0)
      → (x ≡ (pages (bare_leaf pages h c).page).next → x ≡ 0) → SameLinks (pages x) (new x)

-- such a page goes that is its parent's first child: the next child takes its place and its bound
pub record DropsFirstOf (pages new : Pages) (spare : List ℕ) (d h : ℕ) (a b : List Node) (parent : Node) (after : List Node) (c r : Node) : Type 0 where
  pub good : IsGoodTree pages spare
  pub tall : height pages ≡ lifted d (suc h)
  pub at : descend pages d the_root ≡ a ++ parent ∷ b
  pub was : children pages parent ≡ c ∷ r ∷ after
  pub now : children new parent ≡ record { bound = c.bound; page = r.page } ∷ after
  pub parent_kind : (new parent.page).kind ≡ (pages parent.page).kind
  pub parent_level : (new parent.page).level ≡ (pages parent.page).level
  pub bare : IsBare pages h c
  pub others : (x : ℕ) → times x (parent.page ∷ pages_under pages h (c ∷ [])) ≡ 0 → SameTree (pages x) (new x)
  pub left : (x : ℕ) → x ≡ (pages (bare_leaf pages h c).page).prev → 1 ≤ x → ((new x).next ≡ (pages (bare_leaf pages h c).page).next) × ((new x).prev ≡ (pages x).prev)
  pub right : (x : ℕ) → x ≡ (pages (bare_leaf pages h c).page).next → 1 ≤ x → ((new x).prev ≡ (pages (bare_leaf pages h c).page).prev) × ((new x).next ≡ (pages x).next)
  pub links : (x : ℕ) → times x (pages_under pages h (c ∷ [])) ≡ 0 → (x ≡ (pages (bare_leaf pages h c).page).prev → x ≡ 0)
      → (x ≡ (pages (bare_leaf pages h c).page).next → x ≡ 0) → SameLinks (pages x) (new x)

-- the root left without a child becomes an empty leaf, and all pages under it go
pub record EmptiesRoot (pages new : Pages) (spare : List ℕ) (h : ℕ) : Type 0 where
  pub good : IsGoodTree pages spare
  pub tall : height pages ≡ suc h
  pub bare : IsBare pages (suc h) (record { bound = None; page = 1 })
  pub kind : (new 1).kind ≡ Leaf
  pub level : (new 1).level ≡ 0
  pub entries : (new 1).entries ≡ []
  pub prev : (new 1).prev ≡ 0
  pub next : (new 1).next ≡ 0
  pub others : (x : ℕ) → times x (pages_under pages (suc h) the_root) ≡ 0 → SameTree (pages x) (new x) × SameLinks (pages x) (new x)
