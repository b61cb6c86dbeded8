-- The tree of pages meets the laws that the theory of logs asks for.
use Rattle.std.proofs.Common.{◌≡◌, ℕ, List, [], ◌∷◌, ◌++◌, inr, refl, sym, ap, ap₂, subst, ◌∙◌, arith, ◌==◌}
use Rattle.std.proofs.lemmas.Bool.{eq-eqb, eqb-true, cond-true, cond-false, false_from_ne_true}
use Rattle.im_base_types.specs.Keys.{Key}
use Rattle.im_base_types.specs.Pages.{Entry, Body}
use Rattle.im_base_types.specs.Maps.{with_key, without_key}
use Rattle.im_theory_log.specs.Tree.{TreeLaws, with_entries}
use Rattle.im_theory_tree.specs.Levels.{Pages, Node, leaves_under, entries_in, the_root, height, walk}
use Rattle.im_theory_tree.specs.Same.{SameTree, SameLinks}
use Rattle.im_theory_tree.specs.Good.{AtOrAbove, IsUnder, InRange, next_bound, AreOrdered, times, IsGoodTree}
use Rattle.im_theory_tree.specs.Search.{IsOnWay}
use Rattle.im_theory_tree.specs.Changes.{ChangesLeaf}
use Rattle.im_theory_tree.specs.Theory.{page_tree}
pub use Rattle.im_theory_tree.specs.Ways.{with_leaf}
use Rattle.im_theory_tree.proofs.Descent.{times-here}
use Rattle.im_theory_tree.proofs.Order.{before_below, after_above, ordered_right}
use Rattle.im_theory_tree.proofs.LeafChange.{leaf_change}
use Rattle.im_theory_tree.proofs.LeafWalk.{entries_around, leaf_walk}
use Rattle.im_theory_tree.proofs.LookupLemmas.{way_known}
use Rattle.im_theory_tree.proofs.KeyLemmas.{put_behind, put_within, all_with, without-append, without_below, without_above, all_without}

pub at_leaf : (pages : Pages) (p : ℕ) (es : List Entry) → with_leaf pages p es p ≡ with_entries (pages p) es
at_leaf pages p es = cond-true (p == p) (with_entries (pages p) es) (pages p) (eq-eqb p p refl)

pub off_leaf : (pages : Pages) (p : ℕ) (es : List Entry) (x : ℕ) → times x (p ∷ []) ≡ 0 → with_leaf pages p es x ≡ pages x
off_leaf pages p es x h =
    cond-false (p == x) (with_entries (pages p) es) (pages x)
    (false_from_ne_true (p == x) (λ e.
    let here : times x (x ∷ []) ≡ 0 = subst (λ q. times x (q ∷ []) ≡ 0) (eqb-true p x e) h in
    omega (arith, here, times-here x [])))

pub same_tree : (b c : Body) → c ≡ b → SameTree b c
same_tree b c e = record { kind = ap (λ (x : Body). x.kind) e; level = ap (λ (x : Body). x.level) e; entries = ap (λ (x : Body). x.entries) e; leftmost = ap (λ (x : Body). x.leftmost) e }

same_links : (b c : Body) → c ≡ b → SameLinks b c
same_links b c e = record { prev = ap (λ (x : Body). x.prev) e; next = ap (λ (x : Body). x.next) e }

-- a leaf of a good tree with other entries within its range
pub changes_leaf : (pages : Pages) (spare : List ℕ) (left : List Node) (n : Node) (right : List Node) (es : List Entry) → IsGoodTree pages spare
    → leaves_under pages (height pages) the_root ≡ left ++ n ∷ right → InRange n.bound (next_bound right) es
    → ChangesLeaf pages (with_leaf pages n.page es) spare left n right
changes_leaf pages spare left n right es good leaves range =
    let here = at_leaf pages n.page es in
    record {
      good = good;
      leaves = leaves;
      kind = ap (λ (b : Body). b.kind) here;
      level = ap (λ (b : Body). b.level) here;
      same_links = record { prev = ap (λ (b : Body). b.prev) here; next = ap (λ (b : Body). b.next) here };
      range = subst (InRange n.bound (next_bound right)) (sym (ap (λ (b : Body). b.entries) here)) range;
      others = λ x t. (same_tree (pages x) (with_leaf pages n.page es x) (off_leaf pages n.page es x t), same_links (pages x) (with_leaf pages n.page es x) (off_leaf pages n.page es x t));
    }

-- the range of the leaf that is on the way of a key
leaf_range : (pages : Pages) (left : List Node) (n : Node) (right : List Node) → AreOrdered pages (left ++ n ∷ right) → InRange n.bound (next_bound right) (pages n.page).entries
leaf_range pages left n right h = (ordered_right pages left (n ∷ right) h).0

-- what a change of the entries of a key's leaf does to the tree
pub record LeafStep (pages : Pages) (p : ℕ) (es all : List Entry) : Type 0 where
  pub good : IsGoodTree (with_leaf pages p es) []
  pub walks : walk (with_leaf pages p es) ≡ all

step_of : (pages : Pages) (left : List Node) (n : Node) (right : List Node) (es all : List Entry) → IsGoodTree pages []
    → leaves_under pages (height pages) the_root ≡ left ++ n ∷ right → InRange n.bound (next_bound right) es
    → entries_in pages left ++ (es ++ entries_in pages right) ≡ all → LeafStep pages n.page es all
step_of pages left n right es all good leaves range is =
    let change = changes_leaf pages [] left n right es good leaves range in
    record {
      good = (leaf_change pages (with_leaf pages n.page es) [] left n right change).0;
      walks = leaf_walk pages (with_leaf pages n.page es) [] left n right change
          ∙ ap (λ (xs : List Entry). entries_in pages left ++ (xs ++ entries_in pages right)) (ap (λ (b : Body). b.entries) (at_leaf pages n.page es)) ∙ is;
    }

pub key_put : (pages : Pages) (p : ℕ) (k : Key) (i : ℕ) → IsGoodTree pages [] → IsOnWay pages 0 k p
    → LeafStep pages p (with_key k i (pages p).entries) (with_key k i (walk pages))
key_put pages p k i good way =
    let left = way.left in
    let n = way.node in
    let right = way.right in
    let es = (pages n.page).entries in
    let ordered : AreOrdered pages (left ++ n ∷ right) = subst (AreOrdered pages) (sym way.leaves) good.ordered in
    let here = ordered_right pages left (n ∷ right) ordered in
    let low = before_below pages left right n k ordered way.at in
    let high = after_above pages n.bound right k here.1 here.2 way.under in
    let is : entries_in pages left ++ (with_key k i es ++ entries_in pages right) ≡ with_key k i (walk pages) =
    sym (ap (with_key k i) (ap (entries_in pages) (sym way.leaves) ∙ entries_around pages left n right)
    ∙ put_behind k i (entries_in pages left) (es ++ entries_in pages right) low
    ∙ ap (λ (xs : List Entry). entries_in pages left ++ xs) (put_within k i es (entries_in pages right) high)) in
    subst (λ q. LeafStep pages q (with_key k i (pages q).entries) (with_key k i (walk pages))) way.page
    (step_of pages left n right (with_key k i es) (with_key k i (walk pages)) good (sym way.leaves)
    (all_with (λ x. AtOrAbove n.bound x × IsUnder x (next_bound right)) k i es (way.at, way.under) (leaf_range pages left n right ordered)) is)

pub key_dropped : (pages : Pages) (p : ℕ) (k : Key) → IsGoodTree pages [] → IsOnWay pages 0 k p
    → LeafStep pages p (without_key k (pages p).entries) (without_key k (walk pages))
key_dropped pages p k good way =
    let left = way.left in
    let n = way.node in
    let right = way.right in
    let es = (pages n.page).entries in
    let ordered : AreOrdered pages (left ++ n ∷ right) = subst (AreOrdered pages) (sym way.leaves) good.ordered in
    let here = ordered_right pages left (n ∷ right) ordered in
    let low = before_below pages left right n k ordered way.at in
    let high = after_above pages n.bound right k here.1 here.2 way.under in
    let is : entries_in pages left ++ (without_key k es ++ entries_in pages right) ≡ without_key k (walk pages) =
    sym (ap (without_key k) (ap (entries_in pages) (sym way.leaves) ∙ entries_around pages left n right)
    ∙ without-append k (entries_in pages left) (es ++ entries_in pages right)
    ∙ ap₂ ◌++◌ (without_below k (entries_in pages left) low)
    (without-append k es (entries_in pages right) ∙ ap (λ (xs : List Entry). without_key k es ++ xs) (without_above k (entries_in pages right) high))) in
    subst (λ q. LeafStep pages q (without_key k (pages q).entries) (without_key k (walk pages))) way.page
    (step_of pages left n right (without_key k es) (without_key k (walk pages)) good (sym way.leaves)
    (all_without (λ e. AtOrAbove n.bound e.0 × IsUnder e.0 (next_bound right)) k es (leaf_range pages left n right ordered)) is)

pub page_tree_laws : TreeLaws page_tree
page_tree_laws = record {
  put_good = λ pages p k i good can. (key_put pages p k i good can.leaf).good;
  put_walk = λ pages p k i good can. (key_put pages p k i good can.leaf).walks;
  drop_good = λ pages p k i good can. (key_dropped pages p k good can.leaf).good;
  drop_walk = λ pages p k i good can. (key_dropped pages p k good can.leaf).walks;
  put_within = λ pages p k i good can. inr (way_known pages [] 0 k p good can.leaf).1;
  drop_within = λ pages p k i good can. inr (way_known pages [] 0 k p good can.leaf).1;
}
