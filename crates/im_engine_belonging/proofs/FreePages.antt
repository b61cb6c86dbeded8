-- Of the pages that a good tree counts, those that were never written are free ones, and one at most: it ends the list.
use Rattle.std.proofs.Common.{◌≡◌, ℕ, zero, suc, ◌+◌, ◌<◌, ◌≤◌, Bool, List, [], ◌∷◌, ◌++◌, refl, sym, ap, subst, ◌∙◌, inl, inr, arith, ◌==◌, nat_lt, if◌then◌else◌}
use Rattle.std.proofs.lemmas.Bool.{cases_Bool, cases_lt, eqb-true, false_from_ne_true}
use Rattle.std.proofs.lemmas.Bool.Decides.{nat_tests}
use Rattle.im_base_types.specs.declared.page_kind.PageKind.TheVariants.{Free, Meta, Leaf, Inner}
use Rattle.im_theory_tree.specs.Levels.{Pages, Node, below, pages_under, the_root, height, page_numbers}
use Rattle.im_theory_tree.specs.Good.{AllOf, IsInnerPage, IsLeafPage, HaveLevels, AreFree, free_from, times, IsGoodTree}
use Rattle.im_theory_tree.proofs.Keeps.{times-append}
use Rattle.im_engine_belonging.specs.Guards.{FewAreLacking}

-- a free page is no page of another kind
not_here : (pages : Pages) (p q : ℕ) (qs : List ℕ) → (pages p).kind ≡ Free → ((pages q).kind ≡ Free → ⊥) → times p (q ∷ qs) ≡ times p qs
not_here pages p q qs free other =
    ap (λ (t : Bool). (if t then 1 else 0) + times p qs) (false_from_ne_true (p == q) (λ e. other (subst (λ x. (pages x).kind ≡ Free) (eqb-true p q e) free)))
    ∙ omega arith

inner_none : (pages : Pages) (l p : ℕ) (ns : List Node) → (pages p).kind ≡ Free → AllOf (IsInnerPage pages l) ns → times p (page_numbers ns) ≡ 0
inner_none pages l p [] free h = refl
inner_none pages l p (n ∷ ns) free h =
    not_here pages p n.page (page_numbers ns) free (λ e. let clash : Inner ≡ Free = sym h.0.0 ∙ e in cc) ∙ inner_none pages l p ns free h.1

leaf_none : (pages : Pages) (p : ℕ) (ns : List Node) → (pages p).kind ≡ Free → AllOf (IsLeafPage pages) ns → times p (page_numbers ns) ≡ 0
leaf_none pages p [] free h = refl
leaf_none pages p (n ∷ ns) free h =
    not_here pages p n.page (page_numbers ns) free (λ e. let clash : Leaf ≡ Free = sym h.0.0 ∙ e in cc) ∙ leaf_none pages p ns free h.1

-- the tree has no free page
tree_none : (pages : Pages) (h : ℕ) (ns : List Node) (p : ℕ) → (pages p).kind ≡ Free → HaveLevels pages h ns → times p (pages_under pages h ns) ≡ 0
tree_none pages zero ns p free have = leaf_none pages p ns free have
tree_none pages (suc h) ns p free have =
    omega (arith, times-append p (page_numbers ns) (pages_under pages h (below pages ns)), inner_none pages (suc h) p ns free have.0, tree_none pages h (below pages ns) p free have.1)

is_known : (x n : ℕ) → x < n → 1 ≤ (if nat_lt x n then 1 else 0)
is_known x n lt = grind (arith, nat_tests, lt)

-- so each that is counted is in the list of the free ones
listed_free : (pages : Pages) (p : ℕ) → IsGoodTree pages [] → (pages p).kind ≡ Free → p < (pages 0).leftmost → 1 ≤ times p (free_from pages (pages 0).prev (pages 0).next)
listed_free pages p good is known =
    let tree = pages_under pages (height pages) the_root in
    let free = free_from pages (pages 0).prev (pages 0).next in
    let one : 1 ≤ times p (0 ∷ tree ++ free ++ []) = subst (λ n. 1 ≤ n) (sym (good.cover p)) (is_known p (pages 0).leftmost known) in
    omega (
      arith,
      one,
      not_here pages p 0 (tree ++ free ++ []) is (λ e. let clash : Meta ≡ Free = sym good.meta ∙ e in cc),
      times-append p (tree ++ free) [],
      times-append p tree free,
      tree_none pages (height pages) the_root p is good.levels,
    )

-- after the end of the list there is nothing
none_behind : (pages : Pages) (n q x : ℕ) → (pages 0).kind ≡ Meta → q ≡ 0 → AreFree pages n q → times x (free_from pages n q) ≡ 0
none_behind pages zero q x meta end free = refl
none_behind pages (suc n) q x meta end free = absurd (let clash : Free ≡ Meta = sym free.0 ∙ ap (λ (p : ℕ). (pages p).kind) end ∙ meta in let never : ⊥ = cc in never)

-- two that end it are one
one_ends : (pages : Pages) (n q x y : ℕ) → (pages 0).kind ≡ Meta → AreFree pages n q → 1 ≤ times x (free_from pages n q) → 1 ≤ times y (free_from pages n q)
    → (pages x).next ≡ 0 → (pages y).next ≡ 0 → x ≡ y
one_ends pages zero q x y meta free is also last end = absurd (omega (arith, is))
one_ends pages (suc n) q x y meta free is also last end = elim (cases_Bool (x == q)) [
  | inl here ↦ elim (cases_Bool (y == q)) [
    | inl too ↦ eqb-true x q here ∙ sym (eqb-true y q too)
    | inr there ↦ (
        let none = none_behind pages n (pages q).next y meta (ap (λ (p : ℕ). (pages p).next) (sym (eqb-true x q here)) ∙ last) free.1 in
        let off : times y (free_from pages (suc n) q) ≡ times y (free_from pages n (pages q).next) = ap (λ (t : Bool). (if t then 1 else 0) + times y (free_from pages n (pages q).next)) there ∙ omega arith in
        absurd (omega (arith, also, off, none)))
  ]
  | inr away ↦ elim (cases_Bool (y == q)) [
    | inl too ↦ (
        let none = none_behind pages n (pages q).next x meta (ap (λ (p : ℕ). (pages p).next) (sym (eqb-true y q too)) ∙ end) free.1 in
        let off : times x (free_from pages (suc n) q) ≡ times x (free_from pages n (pages q).next) = ap (λ (t : Bool). (if t then 1 else 0) + times x (free_from pages n (pages q).next)) away ∙ omega arith in
        absurd (omega (arith, is, off, none)))
    | inr there ↦ (
        let one : times x (free_from pages (suc n) q) ≡ times x (free_from pages n (pages q).next) = ap (λ (t : Bool). (if t then 1 else 0) + times x (free_from pages n (pages q).next)) away ∙ omega arith in
        let two : times y (free_from pages (suc n) q) ≡ times y (free_from pages n (pages q).next) = ap (λ (t : Bool). (if t then 1 else 0) + times y (free_from pages n (pages q).next)) there ∙ omega arith in
        one_ends pages n (pages q).next x y meta free.1 (omega (arith, is, one)) (omega (arith, also, two)) last end)
  ]
]

pub few_lacking : FewAreLacking
few_lacking pages many good past = elim (cases_lt (many + 1) (pages 0).leftmost) [
  | inl more ↦ (
      let one = past many (omega arith) in
      let two = past (many + 1) (omega arith) in
      let same = one_ends pages (pages 0).prev (pages 0).next many (many + 1) good.meta good.free (listed_free pages many good one.0 (omega (arith, more))) (listed_free pages (many + 1) good two.0 more) one.1 two.1 in
      absurd (omega (arith, same)))
  | inr fewer ↦ fewer
]
