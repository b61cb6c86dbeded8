-- A pool that holds each page of a good tree holds what each look-up wants.
use Rattle.std.proofs.Common.{◌≡◌, ◌≤◌, ◌<◌, ◌+◌, ◌⊎◌, inl, inr, ⊎_elim, ℕ, zero, suc, Bool, true, false, List, [], ◌∷◌, ◌++◌, length, refl, sym, ap, subst, ◌∙◌, arith, ◌==◌, nat_lt, if◌then◌else◌, append_assoc, map}
use Rattle.std.proofs.lemmas.Bool.{cases_lt, eqb-true, false_from_ne_true, lt-ltb, ltb-true}
use Rattle.std.proofs.lemmas.Bool.Decides.{nat_tests}
use Rattle.std.proofs.lemmas.List.{map-append}
use Rattle.im_base_types.specs.Keys.{Key}
use Rattle.im_base_types.specs.Pages.{Body, Entry}
use Rattle.im_base_types.specs.declared.page_kind.PageKind.TheVariants.{Free, Meta, Leaf, Inner}
use Rattle.im_theory_page.specs.Child.{IsChild, StartAbove}
use Rattle.im_theory_page.specs.Entry.{entry_at}
use Rattle.im_page_pool.specs.Pool.{PoolView, page_at, Holds}
use Rattle.im_page_writer.specs.Outcome.{AllPages}
use Rattle.im_theory_tree.specs.Levels.{Pages, Node, children, child_of, below, leaves_under, pages_under, the_root, height, page_numbers}
use Rattle.im_theory_tree.specs.Good.{AllOf, IsLeafPage, HaveLevels, AreChained, AreFree, first_page, free_from, times, IsGoodTree}
use Rattle.im_theory_tree.specs.Lookups.{last_page}
use Rattle.im_theory_tree.proofs.Cited.{split_last, page_last, chained_last, below_count, times-here, times-append, leaf_in_leaves, listed, chained_right, leaf_in_tree, way_known, level_times, way_begins}
use Rattle.im_tree_search.specs.HeldPages.{HoldsOn, HoldsBack}
use Rattle.im_tree_search.specs.Levels.{bodies_of}

-- a page of another kind is another page
other_page : (pages : Pages) (p q : ℕ) (qs : List ℕ) → (pages p).kind ≡ Inner → ((pages q).kind ≡ Inner → ⊥) → times p (q ∷ qs) ≡ times p qs
other_page pages p q qs inner other =
    ap (λ (t : Bool). (if t then 1 else 0) + times p qs) (false_from_ne_true (p == q) (λ e. other (subst (λ (x : ℕ). (pages x).kind ≡ Inner) (eqb-true p q e) inner)))
    ∙ omega arith

none_a_leaf : (pages : Pages) (p : ℕ) (ns : List Node) → (pages p).kind ≡ Inner → AllOf (IsLeafPage pages) ns → times p (page_numbers ns) ≡ 0
none_a_leaf pages p [] inner all = refl
none_a_leaf pages p (n ∷ ns) inner all =
    other_page pages p n.page (page_numbers ns) inner (λ e. let clash : Leaf ≡ Inner = sym all.0.0 ∙ e in cc clash) ∙ none_a_leaf pages p ns inner all.1

none_free : (pages : Pages) (n p q : ℕ) → (pages p).kind ≡ Inner → AreFree pages n q → times p (free_from pages n q) ≡ 0
none_free pages zero p q inner free = refl
none_free pages (suc n) p q inner free =
    other_page pages p q (free_from pages n (pages q).next) inner (λ e. let clash : Free ≡ Inner = sym free.0 ∙ e in cc clash) ∙ none_free pages n p (pages q).next inner free.1

-- ---- a child stands in the tree

entry_listed : (es : List Entry) (i : ℕ) → i < length es → 1 ≤ times (entry_at es i).1 (page_numbers (map child_of es))
entry_listed [] i less = absurd (omega (arith, less))
entry_listed (e ∷ es) zero less = let here = times-here e.1 (page_numbers (map child_of es)) in omega (arith, here)
entry_listed (e ∷ es) (suc i) less = let more = entry_listed es i (omega (arith, less)) in omega (arith, more)

child_listed : (pages : Pages) (n : Node) (key : Key) (c : ℕ) → IsChild (pages n.page) key c → 1 ≤ times c (page_numbers (children pages n))
child_listed pages n key c is =
    ⊎_elim
    (λ (x : (c ≡ (pages n.page).leftmost) × StartAbove key (pages n.page).entries).
    subst (λ (m : ℕ). 1 ≤ times m (page_numbers (children pages n))) (sym x.0)
    (let here = times-here (pages n.page).leftmost (page_numbers (map child_of (pages n.page).entries)) in omega (arith, here)))
    (λ x.
    subst (λ (m : ℕ). 1 ≤ times m (page_numbers (children pages n))) (sym x.2)
    (let more = entry_listed (pages n.page).entries x.0 x.1 in omega (arith, more)))
    is

child_below : (pages : Pages) (ns : List Node) (p c : ℕ) (key : Key) → IsChild (pages p) key c → 1 ≤ times p (page_numbers ns) → 1 ≤ times c (page_numbers (below pages ns))
child_below pages [] p c key is some = absurd (omega (arith, some))
child_below pages (n ∷ ns) p c key is some = by (p == n.page) refl (child_below pages ns p c key is)
  where
    both : times c (page_numbers (below pages (n ∷ ns))) ≡ times c (page_numbers (children pages n)) + times c (page_numbers (below pages ns))
    both = ap (times c) (map-append (λ (m : Node). m.page) (children pages n) (below pages ns)) ∙ times-append c (page_numbers (children pages n)) (page_numbers (below pages ns))

    by : (t : Bool) → (p == n.page) ≡ t → (1 ≤ times p (page_numbers ns) → 1 ≤ times c (page_numbers (below pages ns))) → 1 ≤ times c (page_numbers (below pages (n ∷ ns)))
    by true e on = let here = child_listed pages n key c (subst (λ (x : ℕ). IsChild (pages x) key c) (eqb-true p n.page e) is) in omega (arith, here, both)
    by false e on =
        let none : times p (n.page ∷ page_numbers ns) ≡ times p (page_numbers ns) = ap (λ (t : Bool). (if t then 1 else 0) + times p (page_numbers ns)) e ∙ omega arith in
        let more = on (omega (arith, some, none)) in
        omega (arith, more, both)

child_under : (pages : Pages) (h : ℕ) (ns : List Node) (p c : ℕ) (key : Key) → (pages p).kind ≡ Inner → IsChild (pages p) key c → HaveLevels pages h ns → 1 ≤ times p (pages_under pages h ns) → 1 ≤ times c (pages_under pages h ns)
child_under pages zero ns p c key inner is have some = absurd (let none = none_a_leaf pages p ns inner have in omega (arith, some, none))
child_under pages (suc h) ns p c key inner is have some = by (cases_lt 0 (times p (page_numbers ns))) (child_under pages h (below pages ns) p c key inner is have.1)
  where
    by : (0 < times p (page_numbers ns)) ⊎ (times p (page_numbers ns) ≤ 0) → (1 ≤ times p (pages_under pages h (below pages ns)) → 1 ≤ times c (pages_under pages h (below pages ns))) → 1 ≤ times c (pages_under pages (suc h) ns)
    by (inl here) on =
        let child = child_below pages ns p c key is (omega (arith, here)) in
        let level = level_times pages h (below pages ns) c in
        omega (arith, child, level, times-append c (page_numbers ns) (pages_under pages h (below pages ns)))
    by (inr none) on =
        let more = on (omega (arith, some, none, times-append p (page_numbers ns) (pages_under pages h (below pages ns)))) in
        omega (arith, more, times-append c (page_numbers ns) (pages_under pages h (below pages ns)))

-- the child of an inner page is below the page count
child_known : (pages : Pages) (p c : ℕ) (key : Key) → IsGoodTree pages [] → (pages p).kind ≡ Inner → p < (pages 0).leftmost → IsChild (pages p) key c → c < (pages 0).leftmost
child_known pages p c key good inner known is = (below_count pages [] c good (child_under pages (height pages) the_root p c key inner is good.levels there)).1
  where
    is_known : (x n : ℕ) → x < n → 1 ≤ (if nat_lt x n then 1 else 0)
    is_known x n lt = grind (arith, nat_tests, lt)

    there : 1 ≤ times p (pages_under pages (height pages) the_root)
    there =
        let tree = pages_under pages (height pages) the_root in
        let free = free_from pages (pages 0).prev (pages 0).next in
        let one : 1 ≤ times p (0 ∷ tree ++ free ++ []) = subst (λ (n : ℕ). 1 ≤ n) (sym (good.cover p)) (is_known p (pages 0).leftmost known) in
        omega (
          arith,
          one,
          other_page pages p 0 (tree ++ free ++ []) inner (λ e. let clash : Meta ≡ Inner = sym good.meta ∙ e in cc clash),
          times-append p (tree ++ free) [],
          times-append p tree free,
          none_free pages (pages 0).prev p (pages 0).next inner good.free,
        )

-- and so is the leaf after a leaf
first_known : (pages : Pages) (before : List Node) (after : List Node) → IsGoodTree pages [] → leaves_under pages (height pages) the_root ≡ before ++ after → 1 ≤ first_page after → first_page after < (pages 0).leftmost
first_known pages before [] good leaves some = absurd (omega (arith, some))
first_known pages before (n ∷ after) good leaves some = (leaf_in_tree pages [] before n after good leaves).1

next_known : (pages : Pages) (p : ℕ) → IsGoodTree pages [] → (pages p).kind ≡ Leaf → p < (pages 0).leftmost → 1 ≤ (pages p).next → (pages p).next < (pages 0).leftmost
next_known pages p good leaf known some =
    let x = listed (leaves_under pages (height pages) the_root) p (leaf_in_leaves pages p good leaf known) in
    let chain = chained_right pages 0 x.left (x.node ∷ x.right) (subst (AreChained pages 0) x.are good.chained) in
    let next : (pages p).next ≡ first_page x.right = sym (ap (λ (q : ℕ). (pages q).next) x.page) ∙ chain.1.1 in
    let leaves : leaves_under pages (height pages) the_root ≡ (x.left ++ x.node ∷ []) ++ x.right = x.are ∙ sym (append_assoc x.left (x.node ∷ []) x.right) in
    subst (λ (n : ℕ). n < (pages 0).leftmost) (sym next) (first_known pages (x.left ++ x.node ∷ []) x.right good leaves (subst (λ (n : ℕ). 1 ≤ n) next some))

-- or before it
last_known : (pages : Pages) (before after : List Node) → IsGoodTree pages [] → leaves_under pages (height pages) the_root ≡ before ++ after → 1 ≤ last_page 0 before → last_page 0 before < (pages 0).leftmost
last_known pages before after good leaves some = by (split_last before)
  where
    by : (before ≡ []) ⊎ ((b : List Node) × (n : Node) × (before ≡ b ++ n ∷ [])) → last_page 0 before < (pages 0).leftmost
    by (inl none) = absurd (let zero_is : last_page 0 before ≡ 0 = ap (last_page 0) none in omega (arith, zero_is, some))
    by (inr (b, n, is)) =
        let last : last_page 0 before ≡ n.page = ap (last_page 0) is ∙ page_last 0 b n in
        let whole : leaves_under pages (height pages) the_root ≡ b ++ n ∷ after = leaves ∙ ap (λ (ns : List Node). ns ++ after) is ∙ append_assoc b (n ∷ []) after in
        subst (λ (q : ℕ). q < (pages 0).leftmost) (sym last) (leaf_in_tree pages [] b n after good whole).1

prev_known : (pages : Pages) (p : ℕ) → IsGoodTree pages [] → (pages p).kind ≡ Leaf → p < (pages 0).leftmost → 1 ≤ (pages p).prev → (pages p).prev < (pages 0).leftmost
prev_known pages p good leaf known some =
    let x = listed (leaves_under pages (height pages) the_root) p (leaf_in_leaves pages p good leaf known) in
    let prev : (pages p).prev ≡ last_page 0 x.left = sym (ap (λ (q : ℕ). (pages q).prev) x.page) ∙ chained_last pages 0 x.left x.node x.right (subst (AreChained pages 0) x.are good.chained) in
    subst (λ (n : ℕ). n < (pages 0).leftmost) (sym prev) (last_known pages x.left (x.node ∷ x.right) good x.are (subst (λ (n : ℕ). 1 ≤ n) prev some))

module _ (pages : AllPages) (key : Key) (pool : PoolView) (good : IsGoodTree (bodies_of pages) []) (all : (p : ℕ) → p < (pages 0).body.leftmost → Holds pool p × ((page_at pool p).body ≡ (pages p).body)) where
  abbrev known : ℕ → Bool
  known p = nat_lt p (pages 0).body.leftmost

  known_if : (p : ℕ) → p < (pages 0).body.leftmost → known p ≡ true
  known_if p less = lt-ltb p (pages 0).body.leftmost less

  is_known : (p : ℕ) → known p ≡ true → p < (pages 0).body.leftmost
  is_known p is = ltb-true p (pages 0).body.leftmost is

  root_known : 1 < (pages 0).body.leftmost
  root_known = (way_known (bodies_of pages) [] (height (bodies_of pages)) key 1 good (way_begins (bodies_of pages) [] key good)).1

  pub tree_held : HoldsOn key pool (λ p. nat_lt p (pages 0).body.leftmost)
  tree_held = record {
    way = record {
      root = known_if 1 root_known;
      held = λ p is. (all p (is_known p is)).0;
      child = λ p c is inner child.
          let says = (all p (is_known p is)).1 in
          known_if c (child_known (bodies_of pages) p c key good (subst (λ (b : Body). b.kind ≡ Inner) says inner) (is_known p is) (subst (λ (b : Body). IsChild b key c) says child));
    };
    meta = known_if 0 (omega (arith, root_known));
    next = λ p is leaf some.
        let says = (all p (is_known p is)).1 in
        known_if (page_at pool p).body.next
        (subst (λ (b : Body). b.next < (pages 0).body.leftmost) (sym says) (next_known (bodies_of pages) p good (subst (λ (b : Body). b.kind ≡ Leaf) says leaf) (is_known p is) (subst (λ (b : Body). 1 ≤ b.next) says some)));
  }

  pub tree_held_back : HoldsBack key pool (λ p. nat_lt p (pages 0).body.leftmost)
  tree_held_back = record {
    way = tree_held.way;
    meta = tree_held.meta;
    prev = λ p is leaf some.
        let says = (all p (is_known p is)).1 in
        known_if (page_at pool p).body.prev
        (subst (λ (b : Body). b.prev < (pages 0).body.leftmost) (sym says) (prev_known (bodies_of pages) p good (subst (λ (b : Body). b.kind ≡ Leaf) says leaf) (is_known p is) (subst (λ (b : Body). 1 ≤ b.prev) says some)));
  }
