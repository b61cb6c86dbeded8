-- An inner page at the edge is parted: its last entry's key moves up, and the entry's child is the first of a new page.
use Rattle.std.proofs.Common.{◌≡◌, ◌≢◌, ℕ, suc, ◌+◌, ◌<◌, ◌≤◌, List, [], ◌∷◌, ◌++◌, length, sym, ap, ap₂, subst, ◌∙◌, arith, ⊎_elim, inl, inr, ◌⊎◌}
use Rattle.std.proofs.lemmas.Bool.{cases_eq}
use Rattle.im_base_types.specs.Pages.{Entry, Body}
use Rattle.im_theory_tree.specs.Levels.{Pages, Node, height}
use Rattle.im_theory_tree.specs.Same.{SameLinks}
use Rattle.im_theory_tree.specs.Splits.{SplitsInnerOf}
use Rattle.im_theory_tree.proofs.Cited.{same_tree}
use Rattle.im_theory_tree.proofs.InnerSplit.{inner_split}
use Rattle.im_load.specs.Edge.{last_value, last_child, moved, Stands}
use Rattle.im_load.specs.Steps.{with_entry_last, inner_page}
use Rattle.im_load.proofs.Edges.{same_links, lifted_sum, moved_here, moved_off, is_not, not_in_rest, children_end, AtEdge, under_edge, edge_at, IsOfLevel, Apart, edge_apart}
use Rattle.im_load.proofs.Puts.{Goes, tall_from}
use Rattle.im_load.proofs.Leaves.{last_put, children_put, links_put}

pub record PartsInner (pages new : Pages) (at : ℕ → ℕ) (k : ℕ) (front : List Entry) (up : Entry) (q : ℕ) : Type 0 where
  pub was : (pages (at (suc k))).entries ≡ front ++ up ∷ []
  pub fresh : (j : ℕ) → j ≤ height pages → at j ≢ q
  pub positive : q ≢ 0
  pub closed : new (at (suc k)) ≡ record (pages (at (suc k))) { entries = front }
  pub opened : new q ≡ inner_page (suc k) up.1 []
  pub above : new (at (suc (suc k))) ≡ with_entry_last (pages (at (suc (suc k)))) (up.0, q)
  pub others : (x : ℕ) → x ≢ at (suc k) → x ≢ q → x ≢ at (suc (suc k)) → new x ≡ pages x

module _ (pages new : Pages) (at : ℕ → ℕ) (spare : List ℕ) (es : List Entry) (k : ℕ) (front : List Entry) (up : Entry) (q d : ℕ)
    (s : Stands pages at (q ∷ spare) es) (high : d + suc (suc k) ≡ height pages) (p : PartsInner pages new at k front up q) where
  apart : Apart pages at
  apart = edge_apart pages at (q ∷ spare) s.good s.edge

  abbrev top : AtEdge pages d (at (suc (suc k)))
  top = edge_at pages at s.edge d (suc (suc k)) high

  abbrev parent : Node
  parent = top.node

  abbrev mine : AtEdge pages (suc d) (at (suc k))
  mine = under_edge pages d (at (suc (suc k))) (at (suc k)) top (s.edge.down (suc k) (omega (arith, high)))

  abbrev n : Node
  n = mine.node

  abbrev before : List Node
  before = (children_end pages parent).before

  was_node : (pages n.page).entries ≡ front ++ up ∷ []
  was_node = subst (λ x. (pages x).entries ≡ front ++ up ∷ []) (sym mine.page) p.was

  closed_node : new n.page ≡ record (pages n.page) { entries = front }
  closed_node = subst (λ x. new x ≡ record (pages x) { entries = front }) (sym mine.page) p.closed

  above_node : new parent.page ≡ with_entry_last (pages parent.page) (up.0, q)
  above_node = subst (λ x. new x ≡ with_entry_last (pages x) (up.0, q)) (sym top.page) p.above

  is_inner : IsOfLevel pages (suc k) n.page
  is_inner = subst (IsOfLevel pages (suc k)) (sym mine.page) (apart.levels (suc k) (omega (arith, high)))

  others_node : (x : ℕ) → x ≢ n.page → x ≢ q → x ≢ parent.page → new x ≡ pages x
  others_node x a b c = p.others x (λ same. a (same ∙ sym mine.page)) b (λ same. c (same ∙ sym top.page))

  links_of : (x : ℕ) → x ≢ q → SameLinks (pages x) (new x)
  links_of x b = ⊎_elim
      (λ (same : x ≡ parent.page). subst (λ y. SameLinks (pages y) (new y)) (sym same) (links_put pages new parent.page (up.0, q) above_node))
      (λ (off : x ≡ parent.page → ⊥). ⊎_elim
      (λ (own : x ≡ n.page). subst (λ y. SameLinks (pages y) (new y)) (sym own) (record { prev = ap (λ (b : Body). b.prev) closed_node; next = ap (λ (b : Body). b.next) closed_node }))
      (λ (away : x ≡ n.page → ⊥). same_links (pages x) (new x) (others_node x away b off))
      (cases_eq x n.page))
      (cases_eq x parent.page)

  split : SplitsInnerOf pages new spare d k top.left [] parent before [] n q up
  split = record {
    good = s.good;
    tall = (let sum = lifted_sum d (suc (suc k)) in omega (arith, high, sum));
    at = top.down;
    put = record { was = (children_end pages parent).are; now = children_put pages new parent (up.0, q) before n above_node (children_end pages parent).are };
    parent_kind = ap (λ (b : Body). b.kind) above_node;
    parent_level = ap (λ (b : Body). b.level) above_node;
    left = (ap (λ (b : Body). b.kind) closed_node ∙ is_inner.0, ap (λ (b : Body). b.level) closed_node ∙ is_inner.1);
    right = (ap (λ (b : Body). b.kind) p.opened, ap (λ (b : Body). b.level) p.opened);
    split = record {
      joined = was_node ∙ ap₂ (λ (a b : List Entry). a ++ up ∷ b) (sym (ap (λ (b : Body). b.entries) closed_node)) (sym (ap (λ (b : Body). b.entries) p.opened));
      left = ap (λ (b : Body). b.leftmost) closed_node;
      right = ap (λ (b : Body). b.leftmost) p.opened;
    };
    others = λ x none. same_tree (pages x) (new x)
        (let rest = not_in_rest x parent.page (n.page ∷ q ∷ []) none in
        others_node x (is_not x n.page (q ∷ []) rest) (is_not x q [] (not_in_rest x n.page (q ∷ []) rest)) (is_not x parent.page (n.page ∷ q ∷ []) none));
    links = λ x none. links_of x (is_not x q [] none);
  }

  elsewhere : (j : ℕ) → j ≤ height pages → j ≢ suc k → j ≢ suc (suc k) → new (at j) ≡ pages (at j)
  elsewhere j le a b = p.others (at j) (apart.from j (suc k) le (omega (arith, high)) a) (p.fresh j le) (apart.from j (suc (suc k)) le (omega (arith, high)) b)

  tall : height new ≡ height pages
  tall = tall_from pages new at s.edge (⊎_elim
      (λ (one : height pages ≡ suc (suc k)). subst (λ j. (new (at j)).level ≡ (pages (at j)).level) (sym one) (ap (λ (b : Body). b.level) p.above))
      (λ (off : height pages ≡ suc (suc k) → ⊥). ap (λ (b : Body). b.level) (elsewhere (height pages) (omega arith) (λ z. absurd (omega (arith, z, high))) off))
      (cases_eq (height pages) (suc (suc k))))

  -- the child of the entry that moves up is the page under it at the edge
  child_is : up.1 ≡ at k
  child_is =
      sym (ap (last_value (pages (at (suc k))).leftmost) p.was ∙ last_put (pages (at (suc k))).leftmost front up)
      ∙ s.edge.down k (omega (arith, high))

  down_at : (j : ℕ) → j < height pages → (j ≡ suc k) ⊎ (j ≡ suc k → ⊥) → (j ≡ k) ⊎ (j ≡ k → ⊥) → last_child (new (moved at (suc k) q (suc j))) ≡ moved at (suc k) q j
  down_at j lt (inl z) _ = subst (λ i. last_child (new (moved at (suc k) q (suc i))) ≡ moved at (suc k) q i) (sym z)
      (ap (λ x. last_child (new x)) (moved_off at (suc k) q (suc (suc k)) (λ o. absurd (omega (arith, o))))
      ∙ ap last_child p.above ∙ last_put (pages (at (suc (suc k)))).leftmost (pages (at (suc (suc k)))).entries (up.0, q) ∙ sym (moved_here at (suc k) q))
  down_at j lt (inr off) (inl z) = subst (λ i. last_child (new (moved at (suc k) q (suc i))) ≡ moved at (suc k) q i) (sym z)
      (ap (λ x. last_child (new x)) (moved_here at (suc k) q) ∙ ap last_child p.opened ∙ child_is ∙ sym (moved_off at (suc k) q k (λ o. absurd (omega (arith, o)))))
  down_at j lt (inr off) (inr away) =
      ap (λ x. last_child (new x)) (moved_off at (suc k) q (suc j) (λ o. away (omega (arith, o))))
      ∙ ap last_child (elsewhere (suc j) (omega (arith, lt)) (λ o. away (omega (arith, o))) (λ o. off (omega (arith, o))))
      ∙ s.edge.down j lt ∙ sym (moved_off at (suc k) q j off)

  pub inner_part : Goes pages new (moved at (suc k) q) spare es
  inner_part =
      let law = inner_split pages new spare d k top.left [] parent before [] n q up split in
      let leaf : new (moved at (suc k) q 0) ≡ pages (at 0) =
      ap new (moved_off at (suc k) q 0 (λ o. absurd (omega (arith, o)))) ∙ elsewhere 0 (omega arith) (λ o. absurd (omega (arith, o))) (λ o. absurd (omega (arith, o))) in
      record {
        stands = record {
          good = law.0;
          edge = record {
            root = moved_off at (suc k) q (height new) (λ z. absurd (omega (arith, z, tall, high))) ∙ ap at tall ∙ s.edge.root;
            down = λ j lt. down_at j (omega (arith, lt, tall)) (cases_eq j (suc k)) (cases_eq j k);
          };
          walks = law.1 ∙ s.walks;
          none_free = ap (λ (b : Body). b.prev) (p.others 0 (λ z. apart.zero_off (suc k) (omega (arith, high)) (sym z)) (λ z. p.positive (sym z)) (λ z. apart.zero_off (suc (suc k)) (omega (arith, high)) (sym z))) ∙ s.none_free;
          some = ⊎_elim (λ (z : height pages ≡ 0). inl (tall ∙ z)) (λ (l : 1 ≤ length (pages (at 0)).entries). inr (subst (λ (b : Body). 1 ≤ length b.entries) (sym leaf) l)) s.some;
        };
        tall = tall;
      }
