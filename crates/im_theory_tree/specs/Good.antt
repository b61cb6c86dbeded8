-- What a good tree is.
use Rattle.std.specs.Prelude.{◌≡◌, ◌≤◌, ◌⊎◌, ℕ, zero, suc, ◌+◌, List, [], ◌∷◌, ◌++◌, Option, Some, None, ◌==◌, nat_lt, if◌then◌else◌}
use Rattle.im_theory_tree.specs.Levels.{Pages, Node, below, leaves_under, pages_under, the_root, height}
use Rattle.im_base_types.specs.Keys.{Key, IsBelow}
use Rattle.im_base_types.specs.Pages.{Entry}
use Rattle.im_base_types.specs.declared.page_kind.PageKind.TheVariants.{Free, Meta, Leaf, Inner}

-- it holds of each of the list
abbrev pub AllOf : {X : Type 0} → (X → Type 0) → List X → Type 0
AllOf P [] = Unit {0}
AllOf P (x ∷ xs) = P x × AllOf P xs

-- ---- levels

-- a leaf
abbrev pub IsLeafPage : Pages → Node → Type 0
IsLeafPage pages n = ((pages n.page).kind ≡ Leaf) × ((pages n.page).level ≡ 0)

-- an inner page of level h
abbrev pub IsInnerPage : Pages → ℕ → Node → Type 0
IsInnerPage pages h n = ((pages n.page).kind ≡ Inner) × ((pages n.page).level ≡ h)

-- nodes of level h: levels fall by one, down to the leaves
abbrev pub HaveLevels : Pages → ℕ → List Node → Type 0
HaveLevels pages zero ns = AllOf (IsLeafPage pages) ns
HaveLevels pages (suc h) ns = AllOf (IsInnerPage pages (suc h)) ns × HaveLevels pages h (below pages ns)

-- ---- order

-- a bound reaches a key; none reaches each
abbrev pub AtOrAbove : Option Key → Key → Type 0
AtOrAbove None key = Unit {0}
AtOrAbove (Some bound) key = (bound ≡ key) ⊎ IsBelow bound key

-- a key is under a bound; each is under none
abbrev pub IsUnder : Key → Option Key → Type 0
IsUnder key None = Unit {0}
IsUnder key (Some bound) = IsBelow key bound

-- the keys of these entries lie between two bounds
abbrev pub InRange : Option Key → Option Key → List Entry → Type 0
InRange low high es = AllOf (λ e. AtOrAbove low e.0 × IsUnder e.0 high) es

-- the bound of the node after, none at the end
abbrev pub next_bound : List Node → Option Key
next_bound [] = None
next_bound (n ∷ ns) = n.bound

-- a separator, above the bound before it
abbrev pub IsAfter : Option Key → Option Key → Type 0
IsAfter low None = ⊥
IsAfter None (Some b) = Unit {0}
IsAfter (Some a) (Some b) = IsBelow a b

-- the bound of the first of these nodes is above the one before it
abbrev pub BoundsFollow : Option Key → List Node → Type 0
BoundsFollow low [] = Unit {0}
BoundsFollow low (n ∷ ns) = IsAfter low n.bound

-- the keys of each leaf lie in the range that its separators give, and separators rise
abbrev pub AreOrdered : Pages → List Node → Type 0
AreOrdered pages [] = Unit {0}
AreOrdered pages (n ∷ ns) = InRange n.bound (next_bound ns) (pages n.page).entries × BoundsFollow n.bound ns × AreOrdered pages ns

-- ---- the leaf chain

-- the page of the first of these nodes, 0 for none
abbrev pub first_page : List Node → ℕ
first_page [] = 0
first_page (n ∷ ns) = n.page

-- the leaf chain is these leaves, left to right, after page `prev`
abbrev pub AreChained : Pages → ℕ → List Node → Type 0
AreChained pages prev [] = Unit {0}
AreChained pages prev (n ∷ ns) = ((pages n.page).prev ≡ prev) × ((pages n.page).next ≡ first_page ns) × AreChained pages n.page ns

-- ---- free pages

-- the list of n pages that begins at p
abbrev pub free_from : Pages → ℕ → ℕ → List ℕ
free_from pages zero p = []
free_from pages (suc n) p = p ∷ free_from pages n (pages p).next

-- they are free, and end the list
abbrev pub AreFree : Pages → ℕ → ℕ → Type 0
AreFree pages zero p = p ≡ 0
AreFree pages (suc n) p = ((pages p).kind ≡ Free) × AreFree pages n (pages p).next

-- ---- a good tree

-- how often a page stands in a list
abbrev pub times : ℕ → List ℕ → ℕ
times p [] = 0
times p (q ∷ qs) = (if p == q then 1 else 0) + times p qs

-- A good tree, beside spare pages: those that a structure change has taken and not yet put in their place. Each page below the page count is the meta page, in the tree, free or spare, and one of these once; each past it is free.
pub record IsGoodTree (pages : Pages) (spare : List ℕ) : Type 0 where
  pub meta : (pages 0).kind ≡ Meta
  pub levels : HaveLevels pages (height pages) the_root
  pub ordered : AreOrdered pages (leaves_under pages (height pages) the_root)
  pub chained : AreChained pages 0 (leaves_under pages (height pages) the_root)
  pub free : AreFree pages (pages 0).prev (pages 0).next
  pub cover : (p : ℕ) → times p (0 ∷ pages_under pages (height pages) the_root ++ free_from pages (pages 0).prev (pages 0).next ++ spare)
      ≡ (if nat_lt p (pages 0).leftmost then 1 else 0)
  pub past : (p : ℕ) → (pages 0).leftmost ≤ p → (pages p).kind ≡ Free
