-- The root is parted: page 1 stands over two new pages with what it had.
use Rattle.std.proofs.Common.{◌≡◌, ◌≢◌, ℕ, suc, ◌<◌, ◌≤◌, List, [], ◌∷◌, ◌++◌, length, refl, sym, ap, ap₂, subst, ◌∙◌, arith, ⊎_elim, inl, inr, ◌⊎◌}
use Rattle.std.proofs.lemmas.Bool.{cases_eq}
use Rattle.im_base_types.specs.Pages.{Entry, Body}
use Rattle.im_theory_page.specs.Header.{leaf_body}
use Rattle.im_theory_tree.specs.Good.{AreChained}
use Rattle.im_theory_tree.specs.Levels.{Pages, leaves_under, the_root, height}
use Rattle.im_theory_tree.specs.Same.{SameLinks}
use Rattle.im_theory_tree.specs.Splits.{SplitsRootOf, SplitsLeafRootOf}
use Rattle.im_theory_tree.proofs.Cited.{same_tree}
use Rattle.im_theory_tree.proofs.InnerSplit.{root_split}
use Rattle.im_theory_tree.proofs.RootSplit.{leaf_root_split}
use Rattle.im_load.specs.Edge.{last_value, last_child, moved, risen, IsAboveAll, Stands}
use Rattle.im_load.specs.Steps.{inner_page, root_over}
use Rattle.im_load.proofs.Edges.{same_links, moved_here, moved_off, is_not, not_in_rest, IsOfLevel, Apart, edge_apart}
use Rattle.im_load.proofs.Leaves.{last_put}

pub risen_top : (at : ℕ → ℕ) (h r : ℕ) → risen at h r (suc h) ≡ 1
risen_top at h r = moved_here (moved at h r) (suc h) 1

pub risen_here : (at : ℕ → ℕ) (h r : ℕ) → risen at h r h ≡ r
risen_here at h r = moved_off (moved at h r) (suc h) 1 h (λ e. absurd (omega (arith, e))) ∙ moved_here at h r

pub risen_low : (at : ℕ → ℕ) (h r k : ℕ) → k < h → risen at h r k ≡ at k
risen_low at h r k lt = moved_off (moved at h r) (suc h) 1 k (λ e. absurd (omega (arith, e, lt))) ∙ moved_off at h r k (λ e. absurd (omega (arith, e, lt)))

-- ---- a root that is a leaf

pub record PartsRootLeaf (pages new : Pages) (front : List Entry) (e : Entry) (l r : ℕ) : Type 0 where
  pub was : (pages 1).entries ≡ front ++ e ∷ []
  pub low : IsAboveAll e.0 front
  pub left_some : l ≢ 0
  pub right_some : r ≢ 0
  pub root : new 1 ≡ inner_page 1 l ((e.0, r) ∷ [])
  pub closed : new l ≡ record (pages 1) { next = r; entries = front }
  pub opened : new r ≡ leaf_body l 0 (e ∷ [])
  pub others : (x : ℕ) → x ≢ 1 → x ≢ l → x ≢ r → new x ≡ pages x

module _ (pages new : Pages) (at : ℕ → ℕ) (spare : List ℕ) (es : List Entry) (front : List Entry) (e : Entry) (l r : ℕ)
    (s : Stands pages at (l ∷ r ∷ spare) es) (flat : height pages ≡ 0) (p : PartsRootLeaf pages new front e l r) where
  is_leaf : IsOfLevel pages 0 1
  is_leaf =
      let at_root : at 0 ≡ 1 = ap at (sym flat) ∙ s.edge.root in
      subst (IsOfLevel pages 0) at_root ((edge_apart pages at (l ∷ r ∷ spare) s.good s.edge).levels 0 (omega arith))

  prev_none : (pages 1).prev ≡ 0
  prev_none = (subst (λ h. AreChained pages 0 (leaves_under pages h the_root)) flat s.good.chained).0

  leaf_split_root : SplitsLeafRootOf pages new spare l r e.0
  leaf_split_root = record {
    good = s.good;
    tall = flat;
    root = (ap (λ (b : Body). b.kind) p.root, ap (λ (b : Body). b.level) p.root);
    leftmost = ap (λ (b : Body). b.leftmost) p.root;
    entries = ap (λ (b : Body). b.entries) p.root;
    is_left = (ap (λ (b : Body). b.kind) p.closed ∙ is_leaf.0, ap (λ (b : Body). b.level) p.closed ∙ is_leaf.1);
    is_right = (ap (λ (b : Body). b.kind) p.opened, ap (λ (b : Body). b.level) p.opened);
    halves = record {
      joined = ap₂ (λ (a b : List Entry). a ++ b) (ap (λ (b : Body). b.entries) p.closed) (ap (λ (b : Body). b.entries) p.opened) ∙ sym p.was;
      below = subst (IsAboveAll e.0) (sym (ap (λ (b : Body). b.entries) p.closed)) p.low;
      first = e;
      others = [];
      starts = ap (λ (b : Body). b.entries) p.opened;
      at = refl;
      above = tt;
    };
    left_prev = ap (λ (b : Body). b.prev) p.closed ∙ prev_none;
    left_next = ap (λ (b : Body). b.next) p.closed;
    right_prev = ap (λ (b : Body). b.prev) p.opened;
    right_next = ap (λ (b : Body). b.next) p.opened;
    others = λ x none.
        let rest = not_in_rest x 1 (l ∷ r ∷ []) none in
        let is : new x ≡ pages x = p.others x (is_not x 1 (l ∷ r ∷ []) none) (is_not x l (r ∷ []) rest) (is_not x r [] (not_in_rest x l (r ∷ []) rest)) in
        (same_tree (pages x) (new x) is, same_links (pages x) (new x) is);
  }

  pub root_leaf_part : Stands new (risen at 0 r) spare es
  root_leaf_part =
      let law = leaf_root_split pages new spare l r e.0 leaf_split_root in
      let tall : height new ≡ 1 = ap (λ (b : Body). b.level) p.root in
      record {
        good = law.0;
        edge = record {
          root = ap (risen at 0 r) tall ∙ risen_top at 0 r;
          down = λ k lt.
              let low : k ≡ 0 = omega (arith, lt, tall) in
              subst (λ j. last_child (new (risen at 0 r (suc j))) ≡ risen at 0 r j) (sym low)
              (ap (λ x. last_child (new x)) (risen_top at 0 r) ∙ ap last_child p.root ∙ sym (risen_here at 0 r));
        };
        walks = law.1 ∙ s.walks;
        none_free = ap (λ (b : Body). b.prev) (p.others 0 (λ z. absurd (omega (arith, z))) (λ z. p.left_some (sym z)) (λ z. p.right_some (sym z))) ∙ s.none_free;
        some = inr (subst (λ x. 1 ≤ length (new x).entries) (sym (risen_here at 0 r)) (subst (λ (b : Body). 1 ≤ length b.entries) (sym p.opened) (omega arith)));
      }

-- ---- an inner root

pub record PartsRootInner (pages new : Pages) (at : ℕ → ℕ) (k : ℕ) (front : List Entry) (up : Entry) (l r : ℕ) : Type 0 where
  pub was : (pages 1).entries ≡ front ++ up ∷ []
  pub left_fresh : (j : ℕ) → j ≤ height pages → at j ≢ l
  pub right_fresh : (j : ℕ) → j ≤ height pages → at j ≢ r
  pub left_some : l ≢ 0
  pub right_some : r ≢ 0
  pub root : new 1 ≡ root_over (pages 1) l up.0 r
  pub closed : new l ≡ record (pages 1) { entries = front }
  pub opened : new r ≡ inner_page (suc k) up.1 []
  pub others : (x : ℕ) → x ≢ 1 → x ≢ l → x ≢ r → new x ≡ pages x

module _ (pages new : Pages) (at : ℕ → ℕ) (spare : List ℕ) (es : List Entry) (k : ℕ) (front : List Entry) (up : Entry) (l r : ℕ)
    (s : Stands pages at (l ∷ r ∷ spare) es) (high : height pages ≡ suc k) (p : PartsRootInner pages new at k front up l r) where
  inner_apart : Apart pages at
  inner_apart = edge_apart pages at (l ∷ r ∷ spare) s.good s.edge

  top_is : at (suc k) ≡ 1
  top_is = ap at (sym high) ∙ s.edge.root

  is_inner : IsOfLevel pages (suc k) 1
  is_inner = subst (IsOfLevel pages (suc k)) top_is (inner_apart.levels (suc k) (omega (arith, high)))

  links_of : (x : ℕ) → x ≢ l → x ≢ r → SameLinks (pages x) (new x)
  links_of x a b = ⊎_elim
      (λ (same : x ≡ 1). subst (λ y. SameLinks (pages y) (new y)) (sym same) (record { prev = ap (λ (b : Body). b.prev) p.root; next = ap (λ (b : Body). b.next) p.root }))
      (λ (off : x ≡ 1 → ⊥). same_links (pages x) (new x) (p.others x off a b))
      (cases_eq x 1)

  inner_split_root : SplitsRootOf pages new spare k l r up
  inner_split_root = record {
    good = s.good;
    tall = high;
    root = (ap (λ (b : Body). b.kind) p.root ∙ is_inner.0, ap (λ (b : Body). b.level) p.root ∙ ap suc is_inner.1);
    leftmost = ap (λ (b : Body). b.leftmost) p.root;
    entries = ap (λ (b : Body). b.entries) p.root;
    is_left = (ap (λ (b : Body). b.kind) p.closed ∙ is_inner.0, ap (λ (b : Body). b.level) p.closed ∙ is_inner.1);
    is_right = (ap (λ (b : Body). b.kind) p.opened, ap (λ (b : Body). b.level) p.opened);
    joined = p.was ∙ ap₂ (λ (a b : List Entry). a ++ up ∷ b) (sym (ap (λ (b : Body). b.entries) p.closed)) (sym (ap (λ (b : Body). b.entries) p.opened));
    left_leftmost = ap (λ (b : Body). b.leftmost) p.closed;
    right_leftmost = ap (λ (b : Body). b.leftmost) p.opened;
    others = λ x none. same_tree (pages x) (new x)
        (let rest = not_in_rest x 1 (l ∷ r ∷ []) none in
        p.others x (is_not x 1 (l ∷ r ∷ []) none) (is_not x l (r ∷ []) rest) (is_not x r [] (not_in_rest x l (r ∷ []) rest)));
    links = λ x none. links_of x (is_not x l (r ∷ []) none) (is_not x r [] (not_in_rest x l (r ∷ []) none));
  }

  low_still : (j : ℕ) → j < suc k → new (at j) ≡ pages (at j)
  low_still j lt = p.others (at j)
      (λ e. inner_apart.from j (suc k) (omega (arith, lt, high)) (omega (arith, high)) (λ z. absurd (omega (arith, z, lt))) (e ∙ sym top_is))
      (p.left_fresh j (omega (arith, lt, high))) (p.right_fresh j (omega (arith, lt, high)))

  child_is : up.1 ≡ at k
  child_is =
      sym (ap (last_value (pages 1).leftmost) p.was ∙ last_put (pages 1).leftmost front up)
      ∙ ap (λ x. last_child (pages x)) (sym top_is) ∙ s.edge.down k (omega (arith, high))

  down_at : (j : ℕ) → j < suc (suc k) → (j ≡ suc k) ⊎ (j ≡ suc k → ⊥) → (j ≡ k) ⊎ (j ≡ k → ⊥) → last_child (new (risen at (suc k) r (suc j))) ≡ risen at (suc k) r j
  down_at j lt (inl z) _ = subst (λ i. last_child (new (risen at (suc k) r (suc i))) ≡ risen at (suc k) r i) (sym z)
      (ap (λ x. last_child (new x)) (risen_top at (suc k) r) ∙ ap last_child p.root ∙ sym (risen_here at (suc k) r))
  down_at j lt (inr off) (inl z) = subst (λ i. last_child (new (risen at (suc k) r (suc i))) ≡ risen at (suc k) r i) (sym z)
      (ap (λ x. last_child (new x)) (risen_here at (suc k) r) ∙ ap last_child p.opened ∙ child_is ∙ sym (risen_low at (suc k) r k (omega arith)))
  down_at j lt (inr off) (inr away) =
      let low : suc j < suc k = omega (arith, lt, off, away) in
      ap (λ x. last_child (new x)) (risen_low at (suc k) r (suc j) low) ∙ ap last_child (low_still (suc j) low)
      ∙ s.edge.down j (omega (arith, low, high)) ∙ sym (risen_low at (suc k) r j (omega (arith, low)))

  pub root_inner_part : Stands new (risen at (suc k) r) spare es
  root_inner_part =
      let law = root_split pages new spare k l r up inner_split_root in
      let tall : height new ≡ suc (suc k) = ap (λ (b : Body). b.level) p.root ∙ ap suc is_inner.1 in
      let leaf : new (risen at (suc k) r 0) ≡ pages (at 0) = ap new (risen_low at (suc k) r 0 (omega arith)) ∙ low_still 0 (omega arith) in
      record {
        good = law.0;
        edge = record {
          root = ap (risen at (suc k) r) tall ∙ risen_top at (suc k) r;
          down = λ j lt. down_at j (omega (arith, lt, tall)) (cases_eq j (suc k)) (cases_eq j k);
        };
        walks = law.1 ∙ s.walks;
        none_free = ap (λ (b : Body). b.prev) (p.others 0 (λ z. absurd (omega (arith, z))) (λ z. p.left_some (sym z)) (λ z. p.right_some (sym z))) ∙ s.none_free;
        some = ⊎_elim
            (λ (z : height pages ≡ 0). absurd (omega (arith, z, high)))
            (λ (m : 1 ≤ length (pages (at 0)).entries). inr (subst (λ (b : Body). 1 ≤ length b.entries) (sym leaf) m))
            s.some;
      }
