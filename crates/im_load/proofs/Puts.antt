-- A page more is counted; the last leaf takes an entry.
use Rattle.std.proofs.Common.{◌≡◌, ◌≢◌, ℕ, zero, suc, ◌+◌, ◌<◌, ◌≤◌, List, [], ◌∷◌, ◌++◌, length, Option, None, Some, refl, sym, ap, subst, ◌∙◌, append_assoc, append-nil, length-append, arith, ⊎_elim, inl, inr}
use Rattle.std.proofs.lemmas.Bool.{cases_eq}
use Rattle.im_base_types.specs.Keys.{Key, IsBelow}
use Rattle.im_base_types.specs.Pages.{Entry, Body}
use Rattle.im_theory_tree.specs.Good.{AtOrAbove, IsUnder, InRange, IsAfter, AreOrdered, IsGoodTree}
use Rattle.im_theory_tree.specs.Levels.{Pages, Node, leaves_under, entries_in, the_root, height, walk}
use Rattle.im_theory_tree.specs.Changes.{ChangesLeaf}
use Rattle.im_theory_tree.proofs.Cited.{AllOf-append, AllOf-right, ordered_right, leaves_descend, take_count, leaf_change, entries_around}
use Rattle.im_theory_tree.proofs.Frame.{AllOf-left}
use Rattle.im_theory_tree.proofs.Order.{after_reached, before_below}
use Rattle.im_theory_tree.proofs.HalvesLemmas.{after_from}
use Rattle.im_theory_tree.proofs.LeafSplit.{only_one}
use Rattle.im_theory_tree.proofs.LeafWalk.{leaf_walk}
use Rattle.im_theory_tree.proofs.Cited.{same_tree}
use Rattle.im_load.specs.Edge.{last_child, IsEdge, IsAboveAll, Stands}
use Rattle.im_load.specs.Steps.{with_entry_last, one_page_more, PutsLast}
use Rattle.im_load.proofs.Edges.{same_links, lifted_sum, is_not, AtEdge, edge_at, edge_apart}

-- what a step keeps, with the height of the tree
pub record Goes (pages new : Pages) (at : ℕ → ℕ) (spare : List ℕ) (es : List Entry) : Type 0 where
  pub stands : Stands new at spare es
  pub tall : height new ≡ height pages

-- ---- the edge, where the pages below the top keep their last children

pub tall_from : (pages new : Pages) (at : ℕ → ℕ) → IsEdge pages at → (new (at (height pages))).level ≡ (pages (at (height pages))).level → height new ≡ height pages
tall_from pages new at edge same =
    ap (λ x. (new x).level) (sym edge.root) ∙ same ∙ ap (λ x. (pages x).level) edge.root

pub edge_kept : (pages new : Pages) (at : ℕ → ℕ) → IsEdge pages at → height new ≡ height pages
    → ((k : ℕ) → k < height pages → last_child (new (at (suc k))) ≡ last_child (pages (at (suc k)))) → IsEdge new at
edge_kept pages new at edge tall same = record {
  root = ap at tall ∙ edge.root;
  down = λ k lt. let low : k < height pages = omega (arith, lt, tall) in same k low ∙ edge.down k low;
}

-- ---- the count

pub count_step : (pages new : Pages) (at : ℕ → ℕ) (spare : List ℕ) (es : List Entry) → Stands pages at spare es → new 0 ≡ one_page_more (pages 0)
    → ((x : ℕ) → x ≢ 0 → new x ≡ pages x) → Goes pages new at ((pages 0).leftmost ∷ spare) es
count_step pages new at spare es s meta others =
    let apart = edge_apart pages at spare s.good s.edge in
    let tall : height new ≡ height pages = ap (λ (b : Body). b.level) (others 1 (λ e. absurd (omega (arith, e)))) in
    let leaf : new (at 0) ≡ pages (at 0) = others (at 0) (apart.zero_off 0 (omega arith)) in
    let law = take_count pages new spare (record {
      good = s.good;
      none = s.none_free;
      kind = ap (λ (b : Body). b.kind) meta;
      links = record { prev = ap (λ (b : Body). b.prev) meta; next = ap (λ (b : Body). b.next) meta };
      count = ap (λ (b : Body). b.leftmost) meta;
      others = λ x none. (same_tree (pages x) (new x) (others x (is_not x 0 [] none)), same_links (pages x) (new x) (others x (is_not x 0 [] none)));
    }) in
    record {
      stands = record {
        good = law.0;
        edge = edge_kept pages new at s.edge tall (λ k lt. ap last_child (others (at (suc k)) (apart.zero_off (suc k) (omega (arith, lt)))));
        walks = law.1 ∙ s.walks;
        none_free = ap (λ (b : Body). b.prev) meta ∙ s.none_free;
        some = ⊎_elim (λ (z : height pages ≡ 0). inl (tall ∙ z)) (λ (l : 1 ≤ length (pages (at 0)).entries). inr (subst (λ (b : Body). 1 ≤ length b.entries) (sym leaf) l)) s.some;
      };
      tall = tall;
    }

-- ---- the last leaf

pub edge_leaves : (pages : Pages) (d p : ℕ) (w : AtEdge pages d p) → d ≡ height pages → leaves_under pages (height pages) the_root ≡ w.left ++ w.node ∷ []
edge_leaves pages d p w e =
    ap (λ h. leaves_under pages h the_root) (let same : height pages ≡ _ = sym e ∙ sym (lifted_sum d 0 ∙ (let plus : d + 0 ≡ d = omega arith in plus)) in same)
    ∙ leaves_descend pages d 0 the_root ∙ w.down

pub leaf_range : (pages : Pages) (spare : List ℕ) (left : List Node) (n : Node) → IsGoodTree pages spare → leaves_under pages (height pages) the_root ≡ left ++ n ∷ []
    → InRange n.bound None (pages n.page).entries
leaf_range pages spare left n good leaves = (ordered_right pages left (n ∷ []) (subst (AreOrdered pages) leaves good.ordered)).0

pub walk_ends : (pages : Pages) (left : List Node) (n : Node) → leaves_under pages (height pages) the_root ≡ left ++ n ∷ []
    → walk pages ≡ entries_in pages left ++ ((pages n.page).entries ++ [])
walk_ends pages left n leaves = ap (entries_in pages) leaves ∙ entries_around pages left n []

-- a key above all entries is above those of the last leaf
pub top_leaf : (pages : Pages) (left : List Node) (n : Node) (key : Key) → leaves_under pages (height pages) the_root ≡ left ++ n ∷ [] → IsAboveAll key (walk pages) → IsAboveAll key (pages n.page).entries
top_leaf pages left n key leaves top =
    let P : Entry → Type 0 = λ e. IsBelow e.0 key in
    AllOf-left P (pages n.page).entries [] (AllOf-right P (entries_in pages left) ((pages n.page).entries ++ []) (subst (IsAboveAll key) (walk_ends pages left n leaves) top))

-- a key above some entries within a bound is above the bound
pub bound_after : (low : Option Key) (es : List Entry) (key : Key) → InRange low None es → IsAboveAll key es → 1 ≤ length es → IsAfter low (Some key)
bound_after low [] key range top some = absurd (omega (arith, some))
bound_after low (x ∷ es) key range top some = after_from low x.0 key range.0.0 top.0

root_only : (pages : Pages) (d p : ℕ) (w : AtEdge pages d p) → d ≡ 0 → w.node.bound ≡ None
root_only pages zero p w e = sym (ap (λ (n : Node). n.bound) (only_one (record { bound = None; page = 1 }) w.node w.left [] w.down))
root_only pages (suc d) p w e = absurd (omega (arith, e))

put_end : (a b : List Entry) (e : Entry) → a ++ ((b ++ e ∷ []) ++ []) ≡ (a ++ (b ++ [])) ++ e ∷ []
put_end a b e =
    ap (λ c. a ++ c) (append-nil (b ++ e ∷ []) ∙ ap (λ c. c ++ e ∷ []) (sym (append-nil b))) ∙ sym (append_assoc a (b ++ []) (e ∷ []))

pub put_step : (pages new : Pages) (at : ℕ → ℕ) (spare : List ℕ) (es : List Entry) (e : Entry) → Stands pages at spare es → IsAboveAll e.0 es → PutsLast pages new at e
    → Goes pages new at spare (es ++ e ∷ [])
put_step pages new at spare es e s top put =
    let apart = edge_apart pages at spare s.good s.edge in
    let d : ℕ = height pages in
    let w = edge_at pages at s.edge d 0 (omega arith) in
    let left : List Node = w.left in
    let n : Node = w.node in
    let leaves = edge_leaves pages d (at 0) w refl in
    let range = leaf_range pages spare left n s.good leaves in
    let below : IsAboveAll e.0 (pages n.page).entries = top_leaf pages left n e.0 leaves (subst (IsAboveAll e.0) (sym s.walks) top) in
    let reaches : AtOrAbove n.bound e.0 = ⊎_elim
    (λ (z : height pages ≡ 0). subst (λ (b : Option Key). AtOrAbove b e.0) (sym (root_only pages d (at 0) w z)) tt)
    (λ (l : 1 ≤ length (pages (at 0)).entries).
    after_reached n.bound (Some e.0) e.0
    (bound_after n.bound (pages n.page).entries e.0 range below (subst (λ x. 1 ≤ length (pages x).entries) (sym w.page) l))
    (inl refl))
    s.some in
    let leaf : new n.page ≡ with_entry_last (pages n.page) e = subst (λ x. new x ≡ with_entry_last (pages x) e) (sym w.page) put.leaf in
    let elsewhere : (k : ℕ) → k ≤ height pages → k ≢ 0 → new (at k) ≡ pages (at k) = λ k le off. put.others (at k) (apart.from k 0 le (omega arith) off) in
    let tall : height new ≡ height pages = tall_from pages new at s.edge (⊎_elim
    (λ (z : height pages ≡ 0). subst (λ k. (new (at k)).level ≡ (pages (at k)).level) (sym z) (ap (λ (b : Body). b.level) put.leaf))
    (λ (off : height pages ≡ 0 → ⊥). ap (λ (b : Body). b.level) (elsewhere (height pages) (omega arith) off))
    (cases_eq (height pages) 0)) in
    let change : ChangesLeaf pages new spare left n [] = record {
      good = s.good;
      leaves = leaves;
      kind = ap (λ (b : Body). b.kind) leaf;
      level = ap (λ (b : Body). b.level) leaf;
      same_links = record { prev = ap (λ (b : Body). b.prev) leaf; next = ap (λ (b : Body). b.next) leaf };
      range = subst (InRange n.bound None) (sym (ap (λ (b : Body). b.entries) leaf))
          (AllOf-append (λ (x : Entry). AtOrAbove n.bound x.0 × IsUnder x.0 None) (pages n.page).entries (e ∷ []) range ((reaches, tt), tt));
      others = λ x none.
          let is = put.others x (λ same. is_not x n.page [] none (same ∙ sym w.page)) in
          (same_tree (pages x) (new x) is, same_links (pages x) (new x) is);
    } in
    record {
      stands = record {
        good = (leaf_change pages new spare left n [] change).0;
        edge = edge_kept pages new at s.edge tall (λ k lt. ap last_child (elsewhere (suc k) (omega (arith, lt)) (λ z. absurd (omega (arith, z)))));
        walks = leaf_walk pages new spare left n [] change
            ∙ ap (λ (xs : List Entry). entries_in pages left ++ (xs ++ [])) (ap (λ (b : Body). b.entries) leaf)
            ∙ put_end (entries_in pages left) (pages n.page).entries e
            ∙ ap (λ (xs : List Entry). xs ++ e ∷ []) (sym (walk_ends pages left n leaves) ∙ s.walks);
        none_free = ap (λ (b : Body). b.prev) (put.others 0 (λ z. apart.zero_off 0 (omega arith) (sym z))) ∙ s.none_free;
        some = inr (subst (λ (b : Body). 1 ≤ length b.entries) (sym put.leaf) (omega (arith, length-append (pages (at 0)).entries (e ∷ []))));
      };
      tall = tall;
    }

-- a key above those of the last leaf is above all
pub top_by_leaf : (pages : Pages) (at : ℕ → ℕ) (spare : List ℕ) (es : List Entry) (key : Key) → Stands pages at spare es → IsAboveAll key (pages (at 0)).entries → IsAboveAll key es
top_by_leaf pages at spare es key s top =
    let P : Entry → Type 0 = λ e. IsBelow e.0 key in
    let d : ℕ = height pages in
    let w = edge_at pages at s.edge d 0 (omega arith) in
    let left : List Node = w.left in
    let n : Node = w.node in
    let leaves = edge_leaves pages d (at 0) w refl in
    let range = leaf_range pages spare left n s.good leaves in
    let own : IsAboveAll key (pages n.page).entries = subst (λ x. IsAboveAll key (pages x).entries) (sym w.page) top in
    let reaches : AtOrAbove n.bound key = ⊎_elim
    (λ (z : height pages ≡ 0). subst (λ (b : Option Key). AtOrAbove b key) (sym (root_only pages d (at 0) w z)) tt)
    (λ (l : 1 ≤ length (pages (at 0)).entries).
    after_reached n.bound (Some key) key
    (bound_after n.bound (pages n.page).entries key range own (subst (λ x. 1 ≤ length (pages x).entries) (sym w.page) l))
    (inl refl))
    s.some in
    let low = before_below pages left [] n key (subst (AreOrdered pages) leaves s.good.ordered) reaches in
    subst (IsAboveAll key) (sym (walk_ends pages left n leaves) ∙ s.walks)
    (AllOf-append P (entries_in pages left) ((pages n.page).entries ++ []) low (AllOf-append P (pages n.page).entries [] own tt))
