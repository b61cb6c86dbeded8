-- Splits of pages, over what the pages hold before and after.
use Rattle.std.specs.Prelude.{◌≡◌, ℕ, zero, suc, ◌≤◌, List, [], ◌∷◌, ◌++◌, Some}
use Rattle.im_theory_tree.specs.Good.{AllOf, IsLeafPage, IsInnerPage, IsAfter, times, IsGoodTree}
use Rattle.im_theory_tree.specs.Levels.{Pages, Node, child_of, children, the_root, height, descend, lifted}
use Rattle.im_theory_tree.specs.Same.{SameTree, SameLinks}
use Rattle.im_base_types.specs.Keys.{Key, IsBelow}
use Rattle.im_base_types.specs.Pages.{Entry}
use Rattle.im_base_types.specs.declared.page_kind.PageKind.TheVariants.{Leaf, Inner}

-- the parent has one child more, after n
pub record PutsSeparator (pages new : Pages) (parent : Node) (before after : List Node) (n : Node) (s : Entry) : Type 0 where
  pub was : children pages parent ≡ before ++ n ∷ after
  pub now : children new parent ≡ before ++ n ∷ child_of s ∷ after

-- a leaf split at a separator that stands at its right half's keys and above its left half's
pub record Halves (es left right : List Entry) (s : Key) : Type 0 where
  pub joined : left ++ right ≡ es
  pub below : AllOf (λ (e : Entry). IsBelow e.0 s) left
  pub first : Entry
  pub others : List Entry
  pub starts : right ≡ first ∷ others
  pub at : first.0 ≡ s
  pub above : AllOf (λ (e : Entry). IsBelow s e.0) others

-- a split of leaf n, d levels under the root, whose parent has room: page q has its right half
pub record SplitsLeafOf (pages new : Pages) (spare : List ℕ) (d : ℕ) (a b : List Node) (parent : Node) (before after : List Node) (n : Node) (q : ℕ) (s : Key) : Type 0 where
  pub good : IsGoodTree pages (q ∷ spare)
  pub tall : height pages ≡ lifted d (suc zero)
  pub at : descend pages d the_root ≡ a ++ parent ∷ b
  pub put : PutsSeparator pages new parent before after n (s, q)
  pub parent_kind : (new parent.page).kind ≡ (pages parent.page).kind
  pub parent_level : (new parent.page).level ≡ (pages parent.page).level
  pub left : IsLeafPage new n
  pub right : ((new q).kind ≡ Leaf) × ((new q).level ≡ 0)
  pub halves : Halves (pages n.page).entries (new n.page).entries (new q).entries s
  pub above : IsAfter n.bound (Some s)
  pub others : (x : ℕ) → times x (parent.page ∷ n.page ∷ q ∷ []) ≡ 0 → SameTree (pages x) (new x)
  pub left_prev : (new n.page).prev ≡ (pages n.page).prev
  pub left_next : (new n.page).next ≡ q
  pub right_prev : (new q).prev ≡ n.page
  pub right_next : (new q).next ≡ (pages n.page).next
  pub neighbour : (r : ℕ) → r ≡ (pages n.page).next → 1 ≤ r → ((new r).prev ≡ q) × ((new r).next ≡ (pages r).next)
  pub links : (x : ℕ) → times x (n.page ∷ q ∷ []) ≡ 0 → (x ≡ (pages n.page).next → x ≡ 0) → SameLinks (pages x) (new x)

-- Page p keeps a front of its entries; the first of the rest moves up; q has what is left.
pub record SplitsInner (pages new : Pages) (p q : ℕ) (up : Entry) : Type 0 where
  pub joined : (pages p).entries ≡ (new p).entries ++ up ∷ (new q).entries
  pub left : (new p).leftmost ≡ (pages p).leftmost
  pub right : (new q).leftmost ≡ up.1

-- a split of an inner page of level h + 1 whose parent has room
pub record SplitsInnerOf (pages new : Pages) (spare : List ℕ) (d h : ℕ) (a b : List Node) (parent : Node) (before after : List Node) (n : Node) (q : ℕ) (up : Entry) : Type 0 where
  pub good : IsGoodTree pages (q ∷ spare)
  pub tall : height pages ≡ lifted d (suc (suc h))
  pub at : descend pages d the_root ≡ a ++ parent ∷ b
  pub put : PutsSeparator pages new parent before after n (up.0, q)
  pub parent_kind : (new parent.page).kind ≡ (pages parent.page).kind
  pub parent_level : (new parent.page).level ≡ (pages parent.page).level
  pub left : IsInnerPage new (suc h) n
  pub right : ((new q).kind ≡ Inner) × ((new q).level ≡ suc h)
  pub split : SplitsInner pages new n.page q up
  pub others : (x : ℕ) → times x (parent.page ∷ n.page ∷ q ∷ []) ≡ 0 → SameTree (pages x) (new x)
  pub links : (x : ℕ) → times x (q ∷ []) ≡ 0 → SameLinks (pages x) (new x)

-- a split of an inner root of level h + 1: two new pages take its parts
pub record SplitsRootOf (pages new : Pages) (spare : List ℕ) (h : ℕ) (left right : ℕ) (up : Entry) : Type 0 where
  pub good : IsGoodTree pages (left ∷ right ∷ spare)
  pub tall : height pages ≡ suc h
  pub root : ((new 1).kind ≡ Inner) × ((new 1).level ≡ suc (suc h))
  pub leftmost : (new 1).leftmost ≡ left
  pub entries : (new 1).entries ≡ (up.0, right) ∷ []
  pub is_left : ((new left).kind ≡ Inner) × ((new left).level ≡ suc h)
  pub is_right : ((new right).kind ≡ Inner) × ((new right).level ≡ suc h)
  pub joined : (pages 1).entries ≡ (new left).entries ++ up ∷ (new right).entries
  pub left_leftmost : (new left).leftmost ≡ (pages 1).leftmost
  pub right_leftmost : (new right).leftmost ≡ up.1
  pub others : (x : ℕ) → times x (1 ∷ left ∷ right ∷ []) ≡ 0 → SameTree (pages x) (new x)
  pub links : (x : ℕ) → times x (left ∷ right ∷ []) ≡ 0 → SameLinks (pages x) (new x)

-- a split of a root that is a leaf: two new leaves take its parts
pub record SplitsLeafRootOf (pages new : Pages) (spare : List ℕ) (left right : ℕ) (s : Key) : Type 0 where
  pub good : IsGoodTree pages (left ∷ right ∷ spare)
  pub tall : height pages ≡ zero
  pub root : ((new 1).kind ≡ Inner) × ((new 1).level ≡ suc zero)
  pub leftmost : (new 1).leftmost ≡ left
  pub entries : (new 1).entries ≡ (s, right) ∷ []
  pub is_left : ((new left).kind ≡ Leaf) × ((new left).level ≡ 0)
  pub is_right : ((new right).kind ≡ Leaf) × ((new right).level ≡ 0)
  pub halves : Halves (pages 1).entries (new left).entries (new right).entries s
  pub left_prev : (new left).prev ≡ 0
  pub left_next : (new left).next ≡ right
  pub right_prev : (new right).prev ≡ left
  pub right_next : (new right).next ≡ 0
  pub others : (x : ℕ) → times x (1 ∷ left ∷ right ∷ []) ≡ 0 → SameTree (pages x) (new x) × SameLinks (pages x) (new x)
