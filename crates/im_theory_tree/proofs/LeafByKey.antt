-- A leaf is that of each key that it has, and of each key between two that it has.
use Rattle.std.proofs.Common.{◌≡◌, ℕ, zero, suc, ◌+◌, ◌<◌, ◌≤◌, Bool, true, false, List, [], ◌∷◌, ◌++◌, length, Option, Some, None, refl, sym, ap, subst, ◌∙◌, inr, ⊎_elim, arith, ◌==◌, nat_lt, if◌then◌else◌}
use Rattle.std.proofs.lemmas.Bool.{eqb-true, false_from_ne_true}
use Rattle.std.proofs.lemmas.Bool.Decides.{nat_tests}
use Rattle.im_base_types.specs.Keys.{Key, IsBelow}
use Rattle.im_base_types.specs.Pages.{Entry}
use Rattle.im_base_types.specs.declared.page_kind.PageKind.TheVariants.{Free, Meta, Leaf, Inner}
use Rattle.im_theory_page.specs.Entry.{entry_at}
use Rattle.im_theory_page.proofs.Order.{below_trans}
use Rattle.im_theory_tree.specs.Levels.{Pages, Node, below, leaves_under, pages_under, the_root, height, page_numbers, lifted}
use Rattle.im_theory_tree.specs.Good.{AllOf, IsInnerPage, HaveLevels, AtOrAbove, IsUnder, InRange, next_bound, AreOrdered, AreFree, free_from, times, IsGoodTree}
use Rattle.im_theory_tree.specs.Search.{IsOnWay}
use Rattle.im_theory_tree.proofs.Keeps.{times-append}
use Rattle.im_theory_tree.proofs.Order.{ordered_right}
use Rattle.im_theory_tree.proofs.Descent.{leaves_descend}
use Rattle.im_theory_tree.proofs.LeafChange.{lifted_self}
use Rattle.im_theory_tree.proofs.RootSplitWay.{node_on_way}
use Rattle.im_theory_tree.proofs.Ascent.{at_all as all_place}

-- a page that is no leaf is another page
other_page : (pages : Pages) (p q : ℕ) (qs : List ℕ) → (pages p).kind ≡ Leaf → ((pages q).kind ≡ Leaf → ⊥) → times p (q ∷ qs) ≡ times p qs
other_page pages p q qs leaf no_leaf =
    ap (λ (t : Bool). (if t then 1 else 0) + times p qs) (false_from_ne_true (p == q) (λ e. no_leaf (subst (λ x. (pages x).kind ≡ Leaf) (eqb-true p q e) leaf)))
    ∙ omega arith

inner_none : (pages : Pages) (l p : ℕ) (ns : List Node) → (pages p).kind ≡ Leaf → AllOf (IsInnerPage pages l) ns → times p (page_numbers ns) ≡ 0
inner_none pages l p [] leaf h = refl
inner_none pages l p (n ∷ ns) leaf h =
    other_page pages p n.page (page_numbers ns) leaf (λ e. let clash : Inner ≡ Leaf = sym h.0.0 ∙ e in cc) ∙ inner_none pages l p ns leaf h.1

free_none : (pages : Pages) (n p q : ℕ) → (pages p).kind ≡ Leaf → AreFree pages n q → times p (free_from pages n q) ≡ 0
free_none pages zero p q leaf h = refl
free_none pages (suc n) p q leaf h =
    other_page pages p q (free_from pages n (pages q).next) leaf (λ e. let clash : Free ≡ Leaf = sym h.0 ∙ e in cc) ∙ free_none pages n p (pages q).next leaf h.1

leaf_listed : (pages : Pages) (h : ℕ) (ns : List Node) (p : ℕ) → (pages p).kind ≡ Leaf → HaveLevels pages h ns → times p (pages_under pages h ns) ≡ times p (page_numbers (leaves_under pages h ns))
leaf_listed pages zero ns p leaf have = refl
leaf_listed pages (suc h) ns p leaf have =
    omega (arith, times-append p (page_numbers ns) (pages_under pages h (below pages ns)), inner_none pages (suc h) p ns leaf have.0, leaf_listed pages h (below pages ns) p leaf have.1)

-- each leaf below the page count is among the leaves of the tree
pub leaf_in_leaves : (pages : Pages) (p : ℕ) → IsGoodTree pages [] → (pages p).kind ≡ Leaf → p < (pages 0).leftmost → 1 ≤ times p (page_numbers (leaves_under pages (height pages) the_root))
leaf_in_leaves pages p good leaf known =
    let tree = pages_under pages (height pages) the_root in
    let free = free_from pages (pages 0).prev (pages 0).next in
    let one : 1 ≤ times p (0 ∷ tree ++ free ++ []) = subst (λ n. 1 ≤ n) (sym (good.cover p)) (is_known p (pages 0).leftmost known) in
    omega (
      arith,
      one,
      other_page pages p 0 (tree ++ free ++ []) leaf (λ e. let clash : Meta ≡ Leaf = sym good.meta ∙ e in cc),
      times-append p (tree ++ free) [],
      times-append p tree free,
      free_none pages (pages 0).prev p (pages 0).next leaf good.free,
      leaf_listed pages (height pages) the_root p leaf good.levels,
    )
  where
    is_known : (x n : ℕ) → x < n → 1 ≤ (if nat_lt x n then 1 else 0)
    is_known x n lt = grind (arith, nat_tests, lt)

-- a page number in a list of nodes
pub record Listed (ns : List Node) (p : ℕ) : Type 0 where
  pub left : List Node
  pub node : Node
  pub right : List Node
  pub are : ns ≡ left ++ node ∷ right
  pub page : node.page ≡ p

listed_by : (n : Node) (ns : List Node) (p : ℕ) (t : Bool) → (p == n.page) ≡ t → (t ≡ false → Listed ns p) → Listed (n ∷ ns) p
listed_by n ns p true e rest = record { left = []; node = n; right = ns; are = refl; page = sym (eqb-true p n.page e) }
listed_by n ns p false e rest =
    let r = rest refl in
    record { left = n ∷ r.left; node = r.node; right = r.right; are = ap (λ ms. n ∷ ms) r.are; page = r.page }

pub listed : (ns : List Node) (p : ℕ) → 1 ≤ times p (page_numbers ns) → Listed ns p
listed [] p h = absurd (omega arith)
listed (n ∷ ns) p h =
    listed_by n ns p (p == n.page) refl (λ e. listed ns p
    (let none : times p (n.page ∷ page_numbers ns) ≡ times p (page_numbers ns) = ap (λ (t : Bool). (if t then 1 else 0) + times p (page_numbers ns)) e ∙ omega arith in
    omega (arith, h, none)))

-- a leaf is that of each key in its range
pub in_range_on_way : (pages : Pages) (k : Key) (left : List Node) (n : Node) (right : List Node) → IsGoodTree pages [] → leaves_under pages (height pages) the_root ≡ left ++ n ∷ right
    → AtOrAbove n.bound k → IsUnder k (next_bound right) → IsOnWay pages zero k n.page
in_range_on_way pages k left n right good are at under =
    let d : ℕ = height pages in
    let self : lifted d zero ≡ d = lifted_self d in
    node_on_way pages [] d zero k left n right good (sym self)
    (sym (leaves_descend pages d zero the_root) ∙ ap (λ h. leaves_under pages h the_root) self ∙ are) at under

above_more : (low : Option Key) (a k : Key) → AtOrAbove low a → IsBelow a k → AtOrAbove low k
above_more None a k at less = tt
above_more (Some b) a k at less = ⊎_elim (λ (e : b ≡ a). inr (subst (λ x. IsBelow x k) (sym e) less)) (λ (l : IsBelow b a). inr (below_trans b a k l less)) at

under_more : (high : Option Key) (k b : Key) → IsBelow k b → IsUnder b high → IsUnder k high
under_more None k b less under = tt
under_more (Some c) k b less under = below_trans k b c less under

leaf_range : (pages : Pages) (p : ℕ) (x : Listed (leaves_under pages (height pages) the_root) p) → IsGoodTree pages [] → InRange x.node.bound (next_bound x.right) (pages x.node.page).entries
leaf_range pages p x good = (ordered_right pages x.left (x.node ∷ x.right) (subst (AreOrdered pages) x.are good.ordered)).0

pub leaf_of_its_key : (pages : Pages) (p i : ℕ) → IsGoodTree pages [] → (pages p).kind ≡ Leaf → p < (pages 0).leftmost → i < length (pages p).entries
    → IsOnWay pages zero (entry_at (pages p).entries i).0 p
leaf_of_its_key pages p i good leaf known lt =
    let x = listed (leaves_under pages (height pages) the_root) p (leaf_in_leaves pages p good leaf known) in
    let n : Node = x.node in
    let range = all_place (λ (e : Entry). AtOrAbove n.bound e.0 × IsUnder e.0 (next_bound x.right)) (pages n.page).entries i (leaf_range pages p x good)
    (subst (λ q. i < length (pages q).entries) (sym x.page) lt) in
    subst (λ q. IsOnWay pages zero (entry_at (pages q).entries i).0 q) x.page
    (in_range_on_way pages (entry_at (pages n.page).entries i).0 x.left n x.right good x.are range.0 range.1)

pub leaf_between_keys : (pages : Pages) (p i j : ℕ) (k : Key) → IsGoodTree pages [] → (pages p).kind ≡ Leaf → p < (pages 0).leftmost → i < length (pages p).entries → j < length (pages p).entries
    → IsBelow (entry_at (pages p).entries i).0 k → IsBelow k (entry_at (pages p).entries j).0 → IsOnWay pages zero k p
leaf_between_keys pages p i j k good leaf known li lj low high =
    let x = listed (leaves_under pages (height pages) the_root) p (leaf_in_leaves pages p good leaf known) in
    let n : Node = x.node in
    let es : List Entry = (pages n.page).entries in
    let P : Entry → Type 0 = λ e. AtOrAbove n.bound e.0 × IsUnder e.0 (next_bound x.right) in
    let range = leaf_range pages p x good in
    let at_i = all_place P es i range (subst (λ q. i < length (pages q).entries) (sym x.page) li) in
    let at_j = all_place P es j range (subst (λ q. j < length (pages q).entries) (sym x.page) lj) in
    subst (IsOnWay pages zero k) x.page
    (in_range_on_way pages k x.left n x.right good x.are
    (above_more n.bound (entry_at es i).0 k at_i.0 (subst (λ q. IsBelow (entry_at (pages q).entries i).0 k) (sym x.page) low))
    (under_more (next_bound x.right) k (entry_at es j).0 (subst (λ q. IsBelow k (entry_at (pages q).entries j).0) (sym x.page) high) at_j.1))
