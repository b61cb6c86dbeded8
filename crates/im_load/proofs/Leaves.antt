-- The last leaf is parted: its last entry begins a new leaf, after it.
use Rattle.std.proofs.Common.{◌≡◌, ◌≢◌, ℕ, suc, ◌<◌, ◌≤◌, List, [], ◌∷◌, ◌++◌, map, length, None, refl, sym, ap, ap₂, subst, ◌∙◌, append_assoc, arith, ⊎_elim, inl, inr, ◌⊎◌}
use Rattle.std.proofs.lemmas.Bool.{cases_eq}
use Rattle.std.proofs.lemmas.List.{map-append}
use Rattle.im_base_types.specs.Pages.{Entry, Body}
use Rattle.im_theory_page.specs.Header.{leaf_body}
use Rattle.im_theory_tree.specs.Good.{AtOrAbove, IsUnder, InRange, AreChained}
use Rattle.im_theory_tree.specs.Levels.{Pages, Node, child_of, children, leaves_under, the_root, height}
use Rattle.im_theory_tree.specs.Same.{SameLinks}
use Rattle.im_theory_tree.specs.Splits.{SplitsLeafOf}
use Rattle.im_theory_tree.proofs.Cited.{chained_right}
use Rattle.im_theory_tree.proofs.Frame.{AllOf-left}
use Rattle.im_theory_tree.proofs.LeafSplit.{leaf_split}
use Rattle.im_theory_tree.proofs.Cited.{same_tree}
use Rattle.im_load.specs.Edge.{last_value, last_child, moved, IsAboveAll, Stands}
use Rattle.im_load.specs.Steps.{with_entry_last}
use Rattle.im_load.proofs.Edges.{same_links, lifted_sum, moved_here, moved_off, is_not, not_in_rest, children_end, AtEdge, under_edge, edge_at, IsOfLevel, Apart, edge_apart}
use Rattle.im_load.proofs.Puts.{Goes, tall_from, edge_leaves, leaf_range, bound_after}

-- the last of one entry more is its child
pub last_put : (p : ℕ) (es : List Entry) (e : Entry) → last_value p (es ++ e ∷ []) ≡ e.1
last_put p [] e = refl
last_put p (x ∷ es) e = last_put x.1 es e

-- one child more
pub children_put : (pages new : Pages) (n : Node) (e : Entry) (before : List Node) (m : Node) → new n.page ≡ with_entry_last (pages n.page) e → children pages n ≡ before ++ m ∷ []
    → children new n ≡ before ++ m ∷ child_of e ∷ []
children_put pages new n e before m is are =
    let first : ℕ → Node = λ p. record { bound = n.bound; page = p } in
    ap (λ (b : Body). first b.leftmost ∷ map child_of b.entries) is
    ∙ ap (λ (ns : List Node). first (pages n.page).leftmost ∷ ns) (map-append child_of (pages n.page).entries (e ∷ []))
    ∙ ap (λ (ns : List Node). ns ++ child_of e ∷ []) are
    ∙ append_assoc before (m ∷ []) (child_of e ∷ [])

-- links stay where a page gets an entry more
pub links_put : (pages new : Pages) (p : ℕ) (e : Entry) → new p ≡ with_entry_last (pages p) e → SameLinks (pages p) (new p)
links_put pages new p e is = record { prev = ap (λ (b : Body). b.prev) is; next = ap (λ (b : Body). b.next) is }

pub record PartsLeaf (pages new : Pages) (at : ℕ → ℕ) (front : List Entry) (e : Entry) (q : ℕ) : Type 0 where
  pub was : (pages (at 0)).entries ≡ front ++ e ∷ []
  pub some : 1 ≤ length front
  pub low : IsAboveAll e.0 front
  pub fresh : (k : ℕ) → k ≤ height pages → at k ≢ q
  pub positive : q ≢ 0
  pub closed : new (at 0) ≡ record (pages (at 0)) { next = q; entries = front }
  pub opened : new q ≡ leaf_body (at 0) 0 (e ∷ [])
  pub above : new (at 1) ≡ with_entry_last (pages (at 1)) (e.0, q)
  pub others : (x : ℕ) → x ≢ at 0 → x ≢ q → x ≢ at 1 → new x ≡ pages x

module _ (pages new : Pages) (at : ℕ → ℕ) (spare : List ℕ) (es : List Entry) (front : List Entry) (e : Entry) (q h : ℕ)
    (s : Stands pages at (q ∷ spare) es) (high : height pages ≡ suc h) (p : PartsLeaf pages new at front e q) where
  apart : Apart pages at
  apart = edge_apart pages at (q ∷ spare) s.good s.edge

  abbrev top : AtEdge pages h (at 1)
  top = edge_at pages at s.edge h 1 (omega (arith, high))

  abbrev parent : Node
  parent = top.node

  abbrev leaf_edge : AtEdge pages (suc h) (at 0)
  leaf_edge = under_edge pages h (at 1) (at 0) top (s.edge.down 0 (omega (arith, high)))

  abbrev n : Node
  n = leaf_edge.node

  abbrev before : List Node
  before = (children_end pages parent).before

  leaves : leaves_under pages (height pages) the_root ≡ leaf_edge.left ++ n ∷ []
  leaves = edge_leaves pages (suc h) (at 0) leaf_edge (sym high)

  next_none : (pages n.page).next ≡ 0
  next_none = (chained_right pages 0 leaf_edge.left (n ∷ []) (subst (AreChained pages 0) leaves s.good.chained)).1.1

  was_node : (pages n.page).entries ≡ front ++ e ∷ []
  was_node = subst (λ x. (pages x).entries ≡ front ++ e ∷ []) (sym leaf_edge.page) p.was

  closed_node : new n.page ≡ record (pages n.page) { next = q; entries = front }
  closed_node = subst (λ x. new x ≡ record (pages x) { next = q; entries = front }) (sym leaf_edge.page) p.closed

  above_node : new parent.page ≡ with_entry_last (pages parent.page) (e.0, q)
  above_node = subst (λ x. new x ≡ with_entry_last (pages x) (e.0, q)) (sym top.page) p.above

  is_leaf : IsOfLevel pages 0 n.page
  is_leaf = subst (IsOfLevel pages 0) (sym leaf_edge.page) (apart.levels 0 (omega arith))

  others_node : (x : ℕ) → x ≢ n.page → x ≢ q → x ≢ parent.page → new x ≡ pages x
  others_node x a b c = p.others x (λ same. a (same ∙ sym leaf_edge.page)) b (λ same. c (same ∙ sym top.page))

  range_front : InRange n.bound None front
  range_front =
      AllOf-left (λ (x : Entry). AtOrAbove n.bound x.0 × IsUnder x.0 None) front (e ∷ [])
      (subst (InRange n.bound None) was_node (leaf_range pages (q ∷ spare) leaf_edge.left n s.good leaves))

  links_of : (x : ℕ) → x ≢ n.page → x ≢ q → SameLinks (pages x) (new x)
  links_of x a b = ⊎_elim
      (λ (same : x ≡ parent.page). subst (λ y. SameLinks (pages y) (new y)) (sym same) (links_put pages new parent.page (e.0, q) above_node))
      (λ (off : x ≡ parent.page → ⊥). same_links (pages x) (new x) (others_node x a b off))
      (cases_eq x parent.page)

  split : SplitsLeafOf pages new spare h top.left [] parent before [] n q e.0
  split = record {
    good = s.good;
    tall = (let sum = lifted_sum h 1 in omega (arith, high, sum));
    at = top.down;
    put = record { was = (children_end pages parent).are; now = children_put pages new parent (e.0, q) before n above_node (children_end pages parent).are };
    parent_kind = ap (λ (b : Body). b.kind) above_node;
    parent_level = ap (λ (b : Body). b.level) above_node;
    left = (ap (λ (b : Body). b.kind) closed_node ∙ is_leaf.0, ap (λ (b : Body). b.level) closed_node ∙ is_leaf.1);
    right = (ap (λ (b : Body). b.kind) p.opened, ap (λ (b : Body). b.level) p.opened);
    halves = record {
      joined = ap₂ (λ (a b : List Entry). a ++ b) (ap (λ (b : Body). b.entries) closed_node) (ap (λ (b : Body). b.entries) p.opened) ∙ sym was_node;
      below = subst (IsAboveAll e.0) (sym (ap (λ (b : Body). b.entries) closed_node)) p.low;
      first = e;
      others = [];
      starts = ap (λ (b : Body). b.entries) p.opened;
      at = refl;
      above = tt;
    };
    above = bound_after n.bound front e.0 range_front p.low p.some;
    others = λ x none. same_tree (pages x) (new x)
        (let rest = not_in_rest x parent.page (n.page ∷ q ∷ []) none in
        others_node x (is_not x n.page (q ∷ []) rest) (is_not x q [] (not_in_rest x n.page (q ∷ []) rest)) (is_not x parent.page (n.page ∷ q ∷ []) none));
    left_prev = ap (λ (b : Body). b.prev) closed_node;
    left_next = ap (λ (b : Body). b.next) closed_node;
    right_prev = ap (λ (b : Body). b.prev) p.opened ∙ sym leaf_edge.page;
    right_next = ap (λ (b : Body). b.next) p.opened ∙ sym next_none;
    neighbour = λ r is some. absurd (omega (arith, is, some, next_none));
    links = λ x none last. links_of x (is_not x n.page (q ∷ []) none) (is_not x q [] (not_in_rest x n.page (q ∷ []) none));
  }

  elsewhere : (k : ℕ) → k ≤ height pages → k ≢ 0 → k ≢ 1 → new (at k) ≡ pages (at k)
  elsewhere k le a b = p.others (at k) (apart.from k 0 le (omega arith) a) (p.fresh k le) (apart.from k 1 le (omega (arith, high)) b)

  tall : height new ≡ height pages
  tall = tall_from pages new at s.edge (⊎_elim
      (λ (one : height pages ≡ 1). subst (λ k. (new (at k)).level ≡ (pages (at k)).level) (sym one) (ap (λ (b : Body). b.level) p.above))
      (λ (off : height pages ≡ 1 → ⊥). ap (λ (b : Body). b.level) (elsewhere (height pages) (omega arith) (λ z. absurd (omega (arith, z, high))) off))
      (cases_eq (height pages) 1))

  down_at : (k : ℕ) → k < height pages → (k ≡ 0) ⊎ (k ≡ 0 → ⊥) → last_child (new (moved at 0 q (suc k))) ≡ moved at 0 q k
  down_at k lt (inl z) = subst (λ j. last_child (new (moved at 0 q (suc j))) ≡ moved at 0 q j) (sym z)
      (ap (λ x. last_child (new x)) (moved_off at 0 q 1 (λ o. absurd (omega (arith, o)))) ∙ ap last_child p.above ∙ last_put (pages (at 1)).leftmost (pages (at 1)).entries (e.0, q) ∙ sym (moved_here at 0 q))
  down_at k lt (inr off) =
      ap (λ x. last_child (new x)) (moved_off at 0 q (suc k) (λ o. absurd (omega (arith, o))))
      ∙ ap last_child (elsewhere (suc k) (omega (arith, lt)) (λ o. absurd (omega (arith, o))) (λ o. off (omega (arith, o))))
      ∙ s.edge.down k lt ∙ sym (moved_off at 0 q k off)

  pub leaf_part : Goes pages new (moved at 0 q) spare es
  leaf_part =
      let law = leaf_split pages new spare h top.left [] parent before [] n q e.0 split in
      record {
        stands = record {
          good = law.0;
          edge = record {
            root = moved_off at 0 q (height new) (λ z. absurd (omega (arith, z, tall, high))) ∙ ap at tall ∙ s.edge.root;
            down = λ k lt. down_at k (omega (arith, lt, tall)) (cases_eq k 0);
          };
          walks = law.1 ∙ s.walks;
          none_free = ap (λ (b : Body). b.prev) (p.others 0 (λ z. apart.zero_off 0 (omega arith) (sym z)) (λ z. p.positive (sym z)) (λ z. apart.zero_off 1 (omega (arith, high)) (sym z))) ∙ s.none_free;
          some = inr (subst (λ x. 1 ≤ length (new x).entries) (sym (moved_here at 0 q)) (subst (λ (b : Body). 1 ≤ length b.entries) (sym p.opened) (omega arith)));
        };
        tall = tall;
      }
