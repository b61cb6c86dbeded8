-- The pages of a root's split that the code makes are those of a split of the tree.
use Rattle.std.proofs.Common.{◌≡◌, ℕ, zero, suc, ◌+◌, ◌≤◌, Bool, false, List, [], ◌∷◌, take, drop, refl, sym, ap, subst, ◌∙◌, arith}
use Rattle.im_base_types.specs.Pages.{Body}
use Rattle.im_theory_log.specs.Tree.{with_body, with_entries}
use Rattle.im_base_types.specs.declared.page_kind.PageKind.TheVariants.{Leaf, Inner}
use Rattle.im_theory_page.specs.Entry.{entry_at, Rises}
use Rattle.im_theory_tree.specs.Levels.{Pages, height}
use Rattle.im_theory_tree.specs.Good.{times, IsGoodTree}
use Rattle.im_theory_tree.specs.KeySplits.{SplitsRootLeafPages, SplitsRootInnerPages, SplitsKeyRootLeaf, SplitsKeyRootInner}
use Rattle.im_theory_tree.proofs.Cited.{times-here, good_once, way_begins}
use Rattle.im_smo_pages.specs.Bodies.{inner_body, raised}
use Rattle.im_theory_page.specs.Header.{leaf_body}
use Rattle.im_smo_pages.specs.Parts.{SplitsAt}
use Rattle.im_smo_pages.specs.Changed.{SamePages, root_leaf_split_pages, root_inner_split_pages}
use Rattle.im_smo_pages.proofs.Updates.{at_here, at_other, tree_of, links_of, links_then, links_with, not_first, not_later}
use Rattle.im_smo_pages.proofs.LeafSplitSteps.{way_not_spare}

-- the root and two spare pages are different ones
pub record RootApart (l r : ℕ) : Type 0 where
  pub root_left : 1 ≡ l → ⊥
  pub root_right : 1 ≡ r → ⊥
  pub left_right : l ≡ r → ⊥

pub root_apart : (pages : Pages) (spare : List ℕ) (l r : ℕ) → IsGoodTree pages (l ∷ r ∷ spare) → RootApart l r
root_apart pages spare l r good =
    let root = way_not_spare pages (l ∷ r ∷ spare) (height pages) [] 1 good (way_begins pages (l ∷ r ∷ spare) [] good) in
    record {
      root_left = λ e. not_first 1 l (r ∷ spare) root (sym e);
      root_right = λ e. not_first 1 r spare (not_later 1 l (r ∷ spare) root) (sym e);
      left_right = λ e. let twice : times r (r ∷ r ∷ spare) ≤ 1 = subst (λ (x : ℕ). times r (x ∷ r ∷ spare) ≤ 1) e (omega (arith, good_once pages (l ∷ r ∷ spare) good r)) in
          omega (arith, twice, times-here r (r ∷ spare), times-here r spare);
    }

module _ (pages new : Pages) (l r n : ℕ) (apart : RootApart l r) (is : SamePages new (root_leaf_split_pages pages l r n)) where
  abbrev root_leaf_left : Body
  root_leaf_left = leaf_body 0 r (take n (pages 1).entries)

  abbrev root_leaf_right : Body
  root_leaf_right = leaf_body l 0 (drop n (pages 1).entries)

  abbrev root_leaf_above : Body
  root_leaf_above = inner_body 1 l (((entry_at (pages 1).entries n).0, r) ∷ [])

  abbrev root_leaf_second : Pages
  root_leaf_second = with_body (with_body pages 1 root_leaf_above) r root_leaf_right

  root_leaf_at_left : new l ≡ root_leaf_left
  root_leaf_at_left = is l ∙ at_here root_leaf_second l root_leaf_left

  root_leaf_at_right : new r ≡ root_leaf_right
  root_leaf_at_right = is r ∙ at_other root_leaf_second l root_leaf_left r apart.left_right ∙ at_here (with_body pages 1 root_leaf_above) r root_leaf_right

  root_leaf_at_root : new 1 ≡ root_leaf_above
  root_leaf_at_root =
      is 1 ∙ at_other root_leaf_second l root_leaf_left 1 (λ e. apart.root_left (sym e)) ∙ at_other (with_body pages 1 root_leaf_above) r root_leaf_right 1 (λ e. apart.root_right (sym e))
      ∙ at_here pages 1 root_leaf_above

  root_leaf_elsewhere : (x : ℕ) → times x (1 ∷ l ∷ r ∷ []) ≡ 0 → new x ≡ pages x
  root_leaf_elsewhere x t =
      is x ∙ at_other root_leaf_second l root_leaf_left x (not_first x l (r ∷ []) (not_later x 1 (l ∷ r ∷ []) t))
      ∙ at_other (with_body pages 1 root_leaf_above) r root_leaf_right x (not_first x r [] (not_later x l (r ∷ []) (not_later x 1 (l ∷ r ∷ []) t)))
      ∙ at_other pages 1 root_leaf_above x (not_first x 1 (l ∷ r ∷ []) t)

  pub root_leaf_pages_split : SplitsRootLeafPages pages new l r n
  root_leaf_pages_split = record {
    root = (ap (λ (b : Body). b.kind) root_leaf_at_root, ap (λ (b : Body). b.level) root_leaf_at_root);
    leftmost = ap (λ (b : Body). b.leftmost) root_leaf_at_root;
    entries = ap (λ (b : Body). b.entries) root_leaf_at_root;
    is_left = (ap (λ (b : Body). b.kind) root_leaf_at_left, ap (λ (b : Body). b.level) root_leaf_at_left);
    left_entries = ap (λ (b : Body). b.entries) root_leaf_at_left;
    left_prev = ap (λ (b : Body). b.prev) root_leaf_at_left;
    left_next = ap (λ (b : Body). b.next) root_leaf_at_left;
    is_right = (ap (λ (b : Body). b.kind) root_leaf_at_right, ap (λ (b : Body). b.level) root_leaf_at_right);
    right_entries = ap (λ (b : Body). b.entries) root_leaf_at_right;
    right_prev = ap (λ (b : Body). b.prev) root_leaf_at_right;
    right_next = ap (λ (b : Body). b.next) root_leaf_at_right;
    others = λ x t. (tree_of (pages x) (new x) (root_leaf_elsewhere x t), links_of (pages x) (new x) (root_leaf_elsewhere x t));
  }

-- the images of the split of a root that is a leaf
pub root_leaf_step : {dense : Bool} (pages new : Pages) (spare : List ℕ) (l r n : ℕ) → IsGoodTree pages (l ∷ r ∷ spare) → height pages ≡ zero → Rises (pages 1).entries → SplitsAt dense Leaf (pages 1) n
    → SamePages new (root_leaf_split_pages pages l r n) → SplitsKeyRootLeaf pages new spare l r n
root_leaf_step pages new spare l r n good tall rises at is = record {
  good = good;
  tall = tall;
  rises = rises;
  within = omega (arith, at.well.right);
  pages_split = root_leaf_pages_split pages new l r n (root_apart pages spare l r good) is;
}

module _ (pages new : Pages) (h l r n : ℕ) (apart : RootApart l r) (kind : (pages 1).kind ≡ Inner) (level : (pages 1).level ≡ suc h) (is : SamePages new (root_inner_split_pages pages l r n)) where
  abbrev root_inner_left : Body
  root_inner_left = with_entries (pages 1) (take n (pages 1).entries)

  abbrev root_inner_right : Body
  root_inner_right = inner_body (pages 1).level (entry_at (pages 1).entries n).1 (drop (n + 1) (pages 1).entries)

  abbrev root_inner_above : Body
  root_inner_above = raised (pages 1) l (entry_at (pages 1).entries n).0 r

  abbrev root_inner_second : Pages
  root_inner_second = with_body (with_body pages 1 root_inner_above) r root_inner_right

  root_inner_at_left : new l ≡ root_inner_left
  root_inner_at_left = is l ∙ at_here root_inner_second l root_inner_left

  root_inner_at_right : new r ≡ root_inner_right
  root_inner_at_right = is r ∙ at_other root_inner_second l root_inner_left r apart.left_right ∙ at_here (with_body pages 1 root_inner_above) r root_inner_right

  root_inner_at_root : new 1 ≡ root_inner_above
  root_inner_at_root =
      is 1 ∙ at_other root_inner_second l root_inner_left 1 (λ e. apart.root_left (sym e)) ∙ at_other (with_body pages 1 root_inner_above) r root_inner_right 1 (λ e. apart.root_right (sym e))
      ∙ at_here pages 1 root_inner_above

  one_up : (pages 1).level + 1 ≡ suc (suc h)
  one_up = omega (arith, level)

  pub root_inner_pages_split : SplitsRootInnerPages pages new h l r n
  root_inner_pages_split = record {
    root = (ap (λ (b : Body). b.kind) root_inner_at_root ∙ kind, ap (λ (b : Body). b.level) root_inner_at_root ∙ one_up);
    leftmost = ap (λ (b : Body). b.leftmost) root_inner_at_root;
    entries = ap (λ (b : Body). b.entries) root_inner_at_root;
    is_left = (ap (λ (b : Body). b.kind) root_inner_at_left ∙ kind, ap (λ (b : Body). b.level) root_inner_at_left ∙ level);
    left_leftmost = ap (λ (b : Body). b.leftmost) root_inner_at_left;
    left_entries = ap (λ (b : Body). b.entries) root_inner_at_left;
    is_right = (ap (λ (b : Body). b.kind) root_inner_at_right, ap (λ (b : Body). b.level) root_inner_at_right ∙ level);
    right_leftmost = ap (λ (b : Body). b.leftmost) root_inner_at_right;
    right_entries = ap (λ (b : Body). b.entries) root_inner_at_right;
    others = λ x t.
        tree_of (pages x) (new x) (elsewhere x (not_later x 1 (l ∷ r ∷ []) t) ∙ at_other pages 1 root_inner_above x (not_first x 1 (l ∷ r ∷ []) t));
    links = λ x t.
        links_then (pages x) (with_body pages 1 root_inner_above x) (new x) (links_with pages 1 root_inner_above (record { prev = refl; next = refl }) x)
        (links_of (with_body pages 1 root_inner_above x) (new x) (elsewhere x t));
  }
    where
      elsewhere : (x : ℕ) → times x (l ∷ r ∷ []) ≡ 0 → new x ≡ with_body pages 1 root_inner_above x
      elsewhere x t =
          is x ∙ at_other root_inner_second l root_inner_left x (not_first x l (r ∷ []) t)
          ∙ at_other (with_body pages 1 root_inner_above) r root_inner_right x (not_first x r [] (not_later x l (r ∷ []) t))

-- the images of the split of a root that is an inner page
pub root_inner_step : (pages new : Pages) (spare : List ℕ) (h l r n : ℕ) → IsGoodTree pages (l ∷ r ∷ spare) → height pages ≡ suc h → SplitsAt false Inner (pages 1) n
    → SamePages new (root_inner_split_pages pages l r n) → SplitsKeyRootInner pages new spare h l r n
root_inner_step pages new spare h l r n good tall at is = record {
  good = good;
  tall = tall;
  within = omega (arith, at.well.right);
  pages_split = root_inner_pages_split pages new h l r n (root_apart pages spare l r good) at.kind tall is;
}
