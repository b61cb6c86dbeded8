-- The right edge of a tree: where it stands among the nodes of each level, and what the pages there are.
use Rattle.std.proofs.Common.{◌≡◌, ◌≢◌, ℕ, zero, suc, ◌+◌, ◌-◌, ◌≤◌, List, [], ◌∷◌, ◌++◌, map, None, refl, sym, ap, subst, ◌∙◌, append_assoc, append-nil, arith, ◌==◌}
use Rattle.std.proofs.lemmas.List.Concat.{flat_map-append}
use Rattle.std.proofs.lemmas.Bool.{cond-true, cond-false, eq-eqb, ne_eqb}
use Rattle.im_base_types.specs.Pages.{Entry, Body}
use Rattle.im_base_types.specs.declared.page_kind.PageKind.TheVariants.{Free, Meta, Leaf, Inner}
use Rattle.im_theory_tree.specs.Good.{IsLeafPage, IsInnerPage, HaveLevels, times, IsGoodTree}
use Rattle.im_theory_tree.specs.Levels.{Pages, Node, child_of, children, below, the_root, height, descend, lifted}
use Rattle.im_theory_tree.specs.Same.{SameLinks}
use Rattle.im_theory_tree.proofs.Cited.{AllOf-right, times-here}
use Rattle.im_load.specs.Edge.{last_value, last_child, IsEdge, moved}

-- ---- numbers

pub lifted_sum : (d h : ℕ) → lifted d h ≡ d + h
lifted_sum zero h = omega arith
lifted_sum (suc d) h = let rest = lifted_sum d h in omega (arith, rest)

pub moved_here : (at : ℕ → ℕ) (k q : ℕ) → moved at k q k ≡ q
moved_here at k q = cond-true (k == k) q (at k) (eq-eqb k k refl)

pub moved_off : (at : ℕ → ℕ) (k q j : ℕ) → j ≢ k → moved at k q j ≡ at j
moved_off at k q j off = cond-false (j == k) q (at j) (ne_eqb j k off)

-- a page outside a list is not its first, and outside the rest
pub is_not : (x p : ℕ) (qs : List ℕ) → times x (p ∷ qs) ≡ 0 → x ≢ p
is_not x p qs none e = absurd (omega (arith, none, times-here p qs, ap (λ y. times y (p ∷ qs)) e))

pub not_in_rest : (x p : ℕ) (qs : List ℕ) → times x (p ∷ qs) ≡ 0 → times x qs ≡ 0
not_in_rest x p qs none = omega (arith, none)

pub same_links : (b c : Body) → c ≡ b → SameLinks b c
same_links b c e = record { prev = ap (λ (x : Body). x.prev) e; next = ap (λ (x : Body). x.next) e }

-- ---- the last node of a level

-- a list of nodes ends in one of page p
pub record Ends (ns : List Node) (p : ℕ) : Type 0 where
  pub before : List Node
  pub node : Node
  pub page : node.page ≡ p
  pub are : ns ≡ before ++ node ∷ []

abbrev pub ends_of : (m : Node) (es : List Entry) → Ends (m ∷ map child_of es) (last_value m.page es)
ends_of m [] = record { before = []; node = m; page = refl; are = refl }
ends_of m (e ∷ es) =
    let rest = ends_of (child_of e) es in
    record { before = m ∷ rest.before; node = rest.node; page = rest.page; are = ap (λ ns. m ∷ ns) rest.are }

abbrev pub children_end : (pages : Pages) (n : Node) → Ends (children pages n) (last_child (pages n.page))
children_end pages n = ends_of (record { bound = n.bound; page = (pages n.page).leftmost }) (pages n.page).entries

-- the last node d levels under the root is of page p
pub record AtEdge (pages : Pages) (d p : ℕ) : Type 0 where
  pub left : List Node
  pub node : Node
  pub page : node.page ≡ p
  pub down : descend pages d the_root ≡ left ++ node ∷ []

pub descend_last : (pages : Pages) (d : ℕ) (ns : List Node) → descend pages (suc d) ns ≡ below pages (descend pages d ns)
descend_last pages zero ns = refl
descend_last pages (suc d) ns = descend_last pages d (below pages ns)

pub below_last : (pages : Pages) (a : List Node) (n : Node) (before : List Node) (m : Node) → children pages n ≡ before ++ m ∷ []
    → below pages (a ++ n ∷ []) ≡ (below pages a ++ before) ++ m ∷ []
below_last pages a n before m are =
    flat_map-append (children pages) a (n ∷ [])
    ∙ ap (λ c. below pages a ++ (c ++ [])) are
    ∙ ap (λ c. below pages a ++ c) (append-nil (before ++ m ∷ []))
    ∙ sym (append_assoc (below pages a) before (m ∷ []))

-- the edge goes down to the last child
abbrev pub under_edge : (pages : Pages) (d p c : ℕ) (w : AtEdge pages d p) → last_child (pages p) ≡ c → AtEdge pages (suc d) c
under_edge pages d p c w is =
    let last = children_end pages w.node in
    record {
      left = below pages w.left ++ last.before;
      node = last.node;
      page = last.page ∙ ap (λ x. last_child (pages x)) w.page ∙ is;
      down = descend_last pages d the_root ∙ ap (below pages) w.down ∙ below_last pages w.left w.node last.before last.node last.are;
    }

abbrev pub edge_at : (pages : Pages) (at : ℕ → ℕ) → IsEdge pages at → (d k : ℕ) → d + k ≡ height pages → AtEdge pages d (at k)
edge_at pages at edge zero k e = record {
  left = [];
  node = record { bound = None; page = 1 };
  page = sym (ap at (let same : k ≡ height pages = omega (arith, e) in same) ∙ edge.root);
  down = refl;
}
edge_at pages at edge (suc d) k e =
    under_edge pages d (at (suc k)) (at k) (edge_at pages at edge d (suc k) (omega (arith, e))) (edge.down k (omega (arith, e)))

-- ---- what the pages of the edge are

levels_under : (pages : Pages) (d h : ℕ) (ns : List Node) → HaveLevels pages (lifted d h) ns → HaveLevels pages h (descend pages d ns)
levels_under pages zero h ns have = have
levels_under pages (suc d) h ns have = levels_under pages d h (below pages ns) have.1

-- of level k
abbrev pub IsOfLevel : Pages → ℕ → ℕ → Type 0
IsOfLevel pages zero p = ((pages p).kind ≡ Leaf) × ((pages p).level ≡ 0)
IsOfLevel pages (suc k) p = ((pages p).kind ≡ Inner) × ((pages p).level ≡ suc k)

last_of_level : (pages : Pages) (k : ℕ) (a : List Node) (n : Node) → HaveLevels pages k (a ++ n ∷ []) → IsOfLevel pages k n.page
last_of_level pages zero a n have = (AllOf-right (IsLeafPage pages) a (n ∷ []) have).0
last_of_level pages (suc k) a n have = (AllOf-right (IsInnerPage pages (suc k)) a (n ∷ []) have.0).0

pub edge_level : (pages : Pages) (at : ℕ → ℕ) (spare : List ℕ) → IsGoodTree pages spare → IsEdge pages at → (d k : ℕ) → d + k ≡ height pages → IsOfLevel pages k (at k)
edge_level pages at spare good edge d k e =
    let w = edge_at pages at edge d k e in
    let tall : height pages ≡ lifted d k = sym (lifted_sum d k ∙ e) in
    let have : HaveLevels pages k (w.left ++ w.node ∷ []) = subst (HaveLevels pages k) w.down (levels_under pages d k the_root (subst (λ h. HaveLevels pages h the_root) tall good.levels)) in
    subst (IsOfLevel pages k) w.page (last_of_level pages k w.left w.node have)

level_of : (pages : Pages) (k p : ℕ) → IsOfLevel pages k p → (pages p).level ≡ k
level_of pages zero p h = h.1
level_of pages (suc k) p h = h.1

not_kind_free : (pages : Pages) (k p : ℕ) → IsOfLevel pages k p → (pages p).kind ≡ Free → ⊥
not_kind_free pages zero p h e = let clash : Leaf ≡ Free = sym h.0 ∙ e in cc
not_kind_free pages (suc k) p h e = let clash : Inner ≡ Free = sym h.0 ∙ e in cc

not_kind_meta : (pages : Pages) (k p : ℕ) → IsOfLevel pages k p → (pages p).kind ≡ Meta → ⊥
not_kind_meta pages zero p h e = let clash : Leaf ≡ Meta = sym h.0 ∙ e in cc
not_kind_meta pages (suc k) p h e = let clash : Inner ≡ Meta = sym h.0 ∙ e in cc

-- Pages of different levels differ; none is page 0, and none is past the page count.
pub record Apart (pages : Pages) (at : ℕ → ℕ) : Type 0 where
  pub levels : (k : ℕ) → k ≤ height pages → IsOfLevel pages k (at k)
  pub from : (j k : ℕ) → j ≤ height pages → k ≤ height pages → j ≢ k → at j ≢ at k
  pub zero_off : (k : ℕ) → k ≤ height pages → at k ≢ 0
  pub past_off : (k x : ℕ) → k ≤ height pages → (pages 0).leftmost ≤ x → at k ≢ x

pub edge_apart : (pages : Pages) (at : ℕ → ℕ) (spare : List ℕ) → IsGoodTree pages spare → IsEdge pages at → Apart pages at
edge_apart pages at spare good edge =
    let level : (k : ℕ) → k ≤ height pages → IsOfLevel pages k (at k) = λ k le. edge_level pages at spare good edge (height pages - k) k (omega (arith, le)) in
    record {
      levels = level;
      from = λ j k lj lk off e. off (sym (level_of pages j (at j) (level j lj)) ∙ ap (λ x. (pages x).level) e ∙ level_of pages k (at k) (level k lk));
      zero_off = λ k le e. not_kind_meta pages k (at k) (level k le) (ap (λ x. (pages x).kind) e ∙ good.meta);
      past_off = λ k x le past e. not_kind_free pages k (at k) (level k le) (ap (λ y. (pages y).kind) e ∙ good.past x past);
    }
