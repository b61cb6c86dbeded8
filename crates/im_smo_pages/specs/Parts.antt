-- The pages of a split.
use Rattle.std.specs.Prelude.{◌≡◌, ℕ, zero, suc, ◌+◌, Bool, true, false, [], ◌∷◌, take, drop}
use Rattle.im_base_types.specs.Pages.{Body, Page}
use Rattle.im_theory_log.specs.Tree.{with_entries}
use Rattle.im_base_types.specs.declared.page_kind.PageKind.{PageKind}
use Rattle.im_base_types.specs.declared.page_kind.PageKind.TheVariants.{Leaf, Inner}
use Rattle.im_theory_page.specs.Entry.{entry_at}
use Rattle.im_theory_page.specs.Page.{is_leaf_kind}
use Rattle.im_theory_page.specs.Split.{half_page, IsSplitPoint, HasRoom}
use Rattle.im_theory_tree.specs.Halves.{SplitsWell}
use Rattle.im_smo_pages.specs.Bodies.{says, inner_body, raised, with_separator, HasNoKey}
use Rattle.im_theory_page.specs.Header.{leaf_body}

-- So many bytes of cells and slots leave room for an entry of any size: nearly all that a page has.
abbrev pub dense_bound : ℕ
dense_bound = 3796

-- How many bytes of cells and slots stay left at most, by whether the page is a leaf, whether splits are dense, and the leaf after it, 0 for none. Keys that rise go in behind the last leaf's, so that what stays left of it there is what it will have.
abbrev pub split_bound : Bool → Bool → ℕ → ℕ
split_bound false dense next = half_page
split_bound true false next = half_page
split_bound true true zero = dense_bound
split_bound true true (suc n) = half_page

-- where a page is split, dense or not
abbrev pub IsPoint : Bool → Bool → Body → ℕ → Type 0
IsPoint dense leaf page n = IsSplitPoint (split_bound leaf dense page.next) leaf page.entries n

-- a page of this kind is split at place n, its split point, and each part has room
pub record SplitsAt (dense : Bool) (of : PageKind) (page : Body) (n : ℕ) : Type 0 where
  pub kind : page.kind ≡ of
  pub point : IsPoint dense (is_leaf_kind of) page n
  pub well : SplitsWell (is_leaf_kind of) page.entries n

-- the parent lacks the separator of a split at place n, and has room for it
pub record TakesSeparator (page parent : Body) (q n : ℕ) : Type 0 where
  pub inner : parent.kind ≡ Inner
  pub absent : HasNoKey parent.entries (entry_at page.entries n).0
  pub room : HasRoom (is_leaf_kind Inner) parent.entries ((entry_at page.entries n).0, q)

-- a page of this kind can be split, wherever its split point is
pub record CanHalve (dense : Bool) (of : PageKind) (page : Body) : Type 0 where
  pub kind : page.kind ≡ of
  pub well : (n : ℕ) → IsPoint dense (is_leaf_kind of) page n → SplitsWell (is_leaf_kind of) page.entries n

-- and its parent can take the separator
pub record CanSplit (dense : Bool) (of : PageKind) (page parent : Body) (q : ℕ) : Type 0 where
  pub halves : CanHalve dense of page
  pub takes : (n : ℕ) → IsPoint dense (is_leaf_kind of) page n → TakesSeparator page parent q n

-- Leaf `page`, of number p, is split at place n: `left` has its first n entries, `right`, of number q and after it in the chain, the others, and the parent the first of these keys with q.
pub record LeafSplit (dense : Bool) (page old_left old_right old_parent new_left new_right new_parent : Page) (p q n : ℕ) : Type 0 where
  pub at : SplitsAt dense Leaf page.body n
  pub takes : TakesSeparator page.body old_parent.body q n
  pub left : new_left ≡ says old_left (leaf_body page.body.prev q (take n page.body.entries))
  pub right : new_right ≡ says old_right (leaf_body p page.body.next (drop n page.body.entries))
  pub parent : new_parent ≡ says old_parent (with_separator old_parent.body (entry_at page.body.entries n).0 q)

-- Inner `page` is split at place n: `left` has its first n entries, the next key moves up to the parent, with q, and `right`, of number q, has the others, after that key's child.
pub record InnerSplit (page old_left old_right old_parent new_left new_right new_parent : Page) (q n : ℕ) : Type 0 where
  pub at : SplitsAt false Inner page.body n
  pub takes : TakesSeparator page.body old_parent.body q n
  pub left : new_left ≡ says old_left (with_entries page.body (take n page.body.entries))
  pub right : new_right ≡ says old_right (inner_body page.body.level (entry_at page.body.entries n).1 (drop (n + 1) page.body.entries))
  pub parent : new_parent ≡ says old_parent (with_separator old_parent.body (entry_at page.body.entries n).0 q)

-- The root `page`, a leaf, is split at place n: `left` and `right`, of numbers l and r, are two leaves with its entries, and `root` is their parent.
pub record RootLeafSplit (dense : Bool) (page old_root old_left old_right new_root new_left new_right : Page) (l r n : ℕ) : Type 0 where
  pub at : SplitsAt dense Leaf page.body n
  pub left : new_left ≡ says old_left (leaf_body 0 r (take n page.body.entries))
  pub right : new_right ≡ says old_right (leaf_body l 0 (drop n page.body.entries))
  pub root : new_root ≡ says old_root (inner_body 1 l (((entry_at page.body.entries n).0, r) ∷ []))

-- The root `page`, an inner page, is split at place n: `left` and `right` have its entries but the one that stays in the root, one level up.
pub record RootInnerSplit (page old_root old_left old_right new_root new_left new_right : Page) (l r n : ℕ) : Type 0 where
  pub at : SplitsAt false Inner page.body n
  pub left : new_left ≡ says old_left (with_entries page.body (take n page.body.entries))
  pub right : new_right ≡ says old_right (inner_body page.body.level (entry_at page.body.entries n).1 (drop (n + 1) page.body.entries))
  pub root : new_root ≡ says old_root (raised page.body l (entry_at page.body.entries n).0 r)
