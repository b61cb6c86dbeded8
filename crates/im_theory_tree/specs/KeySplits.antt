-- Splits of the pages on the way of a key, over what each page holds before and after.
use Rattle.std.specs.Prelude.{◌≡◌, ℕ, zero, suc, ◌+◌, ◌<◌, ◌≤◌, Bool, true, false, List, [], ◌∷◌, length, take, drop, Some}
use Rattle.im_base_types.specs.Keys.{Key, IsBelow}
use Rattle.im_base_types.specs.Maps.{with_key}
use Rattle.im_base_types.specs.declared.page_kind.PageKind.TheVariants.{Leaf, Inner}
use Rattle.im_theory_page.specs.Entry.{entry_at, Rises}
use Rattle.im_theory_page.specs.Child.{IsChild}
use Rattle.im_theory_page.specs.Split.{HasRoomForAny}
use Rattle.im_theory_tree.specs.Levels.{Pages, height, walk}
use Rattle.im_theory_tree.specs.Same.{SameTree, SameLinks}
use Rattle.im_theory_tree.specs.Good.{AtOrAbove, times, IsGoodTree}
use Rattle.im_theory_tree.specs.Search.{IsOnWay}

-- the parent has one entry more: a separator, in its place, and the new page
pub record AddsSeparator (pages new : Pages) (parent : ℕ) (s : Key) (q : ℕ) : Type 0 where
  pub kind : (new parent).kind ≡ (pages parent).kind
  pub level : (new parent).level ≡ (pages parent).level
  pub leftmost : (new parent).leftmost ≡ (pages parent).leftmost
  pub entries : (new parent).entries ≡ with_key s q (pages parent).entries

-- leaf p keeps its first n entries, and page q, after it in the chain, has the rest
pub record SplitsLeafPages (pages new : Pages) (parent p q n : ℕ) : Type 0 where
  pub left : ((new p).kind ≡ Leaf) × ((new p).level ≡ 0)
  pub left_entries : (new p).entries ≡ take n (pages p).entries
  pub left_prev : (new p).prev ≡ (pages p).prev
  pub left_next : (new p).next ≡ q
  pub right : ((new q).kind ≡ Leaf) × ((new q).level ≡ 0)
  pub right_entries : (new q).entries ≡ drop n (pages p).entries
  pub right_prev : (new q).prev ≡ p
  pub right_next : (new q).next ≡ (pages p).next
  pub adds : AddsSeparator pages new parent (entry_at (pages p).entries n).0 q
  pub neighbour : (r : ℕ) → r ≡ (pages p).next → 1 ≤ r → ((new r).prev ≡ q) × ((new r).next ≡ (pages r).next)
  pub others : (x : ℕ) → times x (parent ∷ p ∷ q ∷ []) ≡ 0 → SameTree (pages x) (new x)
  pub links : (x : ℕ) → times x (p ∷ q ∷ []) ≡ 0 → (x ≡ (pages p).next → x ≡ 0) → SameLinks (pages x) (new x)

-- the leaf p of the key is split at place n under its parent
pub record SplitsKeyLeaf (pages new : Pages) (spare : List ℕ) (key : Key) (parent p q n : ℕ) : Type 0 where
  pub good : IsGoodTree pages (q ∷ spare)
  pub way : IsOnWay pages (suc zero) key parent
  pub child : IsChild (pages parent) key p
  pub parent_rises : Rises (pages parent).entries
  pub rises : Rises (pages p).entries
  pub some : 1 ≤ n
  pub within : n < length (pages p).entries
  pub pages_split : SplitsLeafPages pages new parent p q n

-- A split of the page on a key's way that leaves p with the keys below s and q with the others: the tree is good, the walk stays, and the way goes on through one of the two.
pub record KeepsWay (pages new : Pages) (spare : List ℕ) (k : ℕ) (key : Key) (p q : ℕ) (s : Key) : Type 0 where
  pub good : IsGoodTree new spare
  pub walks : walk new ≡ walk pages
  pub low : IsBelow key s → IsOnWay new k key p
  pub high : AtOrAbove (Some s) key → IsOnWay new k key q

-- whether the pages of a level are leaves
abbrev pub is_leaf_level : ℕ → Bool
is_leaf_level zero = true
is_leaf_level (suc k) = false

-- the page of level k on a key's way has room for an entry of any size
pub record HasRoomOnWay (pages : Pages) (k : ℕ) (key : Key) : Type 0 where
  pub page : ℕ
  pub way : IsOnWay pages k key page
  pub room : HasRoomForAny (is_leaf_level k) (pages page).entries

-- the root, a leaf, becomes the parent of two new leaves: the one has its first n entries, the other the rest
pub record SplitsRootLeafPages (pages new : Pages) (left right n : ℕ) : Type 0 where
  pub root : ((new 1).kind ≡ Inner) × ((new 1).level ≡ suc zero)
  pub leftmost : (new 1).leftmost ≡ left
  pub entries : (new 1).entries ≡ ((entry_at (pages 1).entries n).0, right) ∷ []
  pub is_left : ((new left).kind ≡ Leaf) × ((new left).level ≡ 0)
  pub left_entries : (new left).entries ≡ take n (pages 1).entries
  pub left_prev : (new left).prev ≡ 0
  pub left_next : (new left).next ≡ right
  pub is_right : ((new right).kind ≡ Leaf) × ((new right).level ≡ 0)
  pub right_entries : (new right).entries ≡ drop n (pages 1).entries
  pub right_prev : (new right).prev ≡ left
  pub right_next : (new right).next ≡ 0
  pub others : (x : ℕ) → times x (1 ∷ left ∷ right ∷ []) ≡ 0 → SameTree (pages x) (new x) × SameLinks (pages x) (new x)

-- the root is the leaf of every key, and is split at place n
pub record SplitsKeyRootLeaf (pages new : Pages) (spare : List ℕ) (left right n : ℕ) : Type 0 where
  pub good : IsGoodTree pages (left ∷ right ∷ spare)
  pub tall : height pages ≡ zero
  pub rises : Rises (pages 1).entries
  pub within : n < length (pages 1).entries
  pub pages_split : SplitsRootLeafPages pages new left right n

-- inner page p of level h + 1 keeps its first n entries; the next one moves up to the parent; and page q has the rest
pub record SplitsInnerPages (pages new : Pages) (h parent p q n : ℕ) : Type 0 where
  pub left : ((new p).kind ≡ Inner) × ((new p).level ≡ suc h)
  pub left_leftmost : (new p).leftmost ≡ (pages p).leftmost
  pub left_entries : (new p).entries ≡ take n (pages p).entries
  pub right : ((new q).kind ≡ Inner) × ((new q).level ≡ suc h)
  pub right_leftmost : (new q).leftmost ≡ (entry_at (pages p).entries n).1
  pub right_entries : (new q).entries ≡ drop (n + 1) (pages p).entries
  pub adds : AddsSeparator pages new parent (entry_at (pages p).entries n).0 q
  pub others : (x : ℕ) → times x (parent ∷ p ∷ q ∷ []) ≡ 0 → SameTree (pages x) (new x)
  pub links : (x : ℕ) → times x (q ∷ []) ≡ 0 → SameLinks (pages x) (new x)

-- the inner page p of level h + 1 on the key's way is split at place n under its parent
pub record SplitsKeyInner (pages new : Pages) (spare : List ℕ) (h : ℕ) (key : Key) (parent p q n : ℕ) : Type 0 where
  pub good : IsGoodTree pages (q ∷ spare)
  pub way : IsOnWay pages (suc (suc h)) key parent
  pub child : IsChild (pages parent) key p
  pub parent_rises : Rises (pages parent).entries
  pub rises : Rises (pages p).entries
  pub within : n < length (pages p).entries
  pub pages_split : SplitsInnerPages pages new h parent p q n

-- an inner root of level h + 1 becomes the parent of two new pages: the one has its first n entries, the next one moves up, the other has the rest
pub record SplitsRootInnerPages (pages new : Pages) (h left right n : ℕ) : Type 0 where
  pub root : ((new 1).kind ≡ Inner) × ((new 1).level ≡ suc (suc h))
  pub leftmost : (new 1).leftmost ≡ left
  pub entries : (new 1).entries ≡ ((entry_at (pages 1).entries n).0, right) ∷ []
  pub is_left : ((new left).kind ≡ Inner) × ((new left).level ≡ suc h)
  pub left_leftmost : (new left).leftmost ≡ (pages 1).leftmost
  pub left_entries : (new left).entries ≡ take n (pages 1).entries
  pub is_right : ((new right).kind ≡ Inner) × ((new right).level ≡ suc h)
  pub right_leftmost : (new right).leftmost ≡ (entry_at (pages 1).entries n).1
  pub right_entries : (new right).entries ≡ drop (n + 1) (pages 1).entries
  pub others : (x : ℕ) → times x (1 ∷ left ∷ right ∷ []) ≡ 0 → SameTree (pages x) (new x)
  pub links : (x : ℕ) → times x (left ∷ right ∷ []) ≡ 0 → SameLinks (pages x) (new x)

-- the inner root is on the way of every key, and is split at place n
pub record SplitsKeyRootInner (pages new : Pages) (spare : List ℕ) (h left right n : ℕ) : Type 0 where
  pub good : IsGoodTree pages (left ∷ right ∷ spare)
  pub tall : height pages ≡ suc h
  pub within : n < length (pages 1).entries
  pub pages_split : SplitsRootInnerPages pages new h left right n

-- After a split of inner level h + 1: the half on the key's way has room for a separator of any size, and its child on the way is the one that it was.
pub record HalfGoesOn (new : Pages) (h : ℕ) (key : Key) (child : ℕ) : Type 0 where
  pub page : ℕ
  pub way : IsOnWay new (suc h) key page
  pub goes : IsChild (new page) key child
  pub room : HasRoomForAny false (new page).entries
