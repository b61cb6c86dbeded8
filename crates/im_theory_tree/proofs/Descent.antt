-- The levels above a change, and pages that are elsewhere.
use Rattle.std.proofs.Common.{◌≡◌, ℕ, zero, suc, ◌+◌, ◌≤◌, true, List, [], ◌∷◌, ◌++◌, refl, sym, ap, subst, ◌∙◌, append_assoc, arith, ◌==◌, eq-eqb}
use Rattle.im_theory_tree.specs.Good.{AllOf, HaveLevels, times}
use Rattle.im_theory_tree.specs.Levels.{Pages, Node, below, leaves_under, pages_under, page_numbers, descend, lifted}
use Rattle.im_theory_tree.specs.Same.{SameTree, SameOn}
use Rattle.im_theory_tree.proofs.Frame.{AllOf-left, AllOf-right, below_same}
use Rattle.im_theory_tree.proofs.Keeps.{inner_pages_same}

-- the pages of the d levels above
abbrev pub pages_above : Pages → ℕ → List Node → List ℕ
pages_above pages zero ns = []
pages_above pages (suc d) ns = page_numbers ns ++ pages_above pages d (below pages ns)

pub leaves_descend : (pages : Pages) (d h : ℕ) (ns : List Node) → leaves_under pages (lifted d h) ns ≡ leaves_under pages h (descend pages d ns)
leaves_descend pages zero h ns = refl
leaves_descend pages (suc d) h ns = leaves_descend pages d h (below pages ns)

pub pages_descend : (pages : Pages) (d h : ℕ) (ns : List Node)
    → pages_under pages (lifted d h) ns ≡ pages_above pages d ns ++ pages_under pages h (descend pages d ns)
pages_descend pages zero h ns = refl
pages_descend pages (suc d) h ns =
    ap (λ t. page_numbers ns ++ t) (pages_descend pages d h (below pages ns))
    ∙ sym (append_assoc (page_numbers ns) (pages_above pages d (below pages ns)) (pages_under pages h (descend pages d (below pages ns))))

-- where the pages above stay, the way down stays, and so do those pages
pub descend_same : (pages new : Pages) (d : ℕ) (ns : List Node) → SameOn pages new (pages_above pages d ns)
    → (descend new d ns ≡ descend pages d ns) × (pages_above new d ns ≡ pages_above pages d ns)
descend_same pages new zero ns s = (refl, refl)
descend_same pages new (suc d) ns s =
    let P : ℕ → Type 0 = λ q. SameTree (pages q) (new q) in
    let top = below_same pages new ns (AllOf-left P (page_numbers ns) (pages_above pages d (below pages ns)) s) in
    let under = descend_same pages new d (below pages ns) (AllOf-right P (page_numbers ns) (pages_above pages d (below pages ns)) s) in
    (ap (descend new d) top ∙ under.0, ap (λ ms. page_numbers ns ++ pages_above new d ms) top ∙ ap (λ t. page_numbers ns ++ t) under.1)

pub levels_descend : (pages new : Pages) (d h : ℕ) (ns : List Node) → SameOn pages new (pages_above pages d ns)
    → HaveLevels pages (lifted d h) ns → (HaveLevels pages h (descend pages d ns) → HaveLevels new h (descend pages d ns)) → HaveLevels new (lifted d h) ns
levels_descend pages new zero h ns s have step = step have
levels_descend pages new (suc d) h ns s have step =
    let P : ℕ → Type 0 = λ q. SameTree (pages q) (new q) in
    let top = AllOf-left P (page_numbers ns) (pages_above pages d (below pages ns)) s in (
      inner_pages_same pages new (suc (lifted d h)) ns top have.0,
      subst (HaveLevels new (lifted d h)) (sym (below_same pages new ns top))
          (levels_descend pages new d h (below pages ns) (AllOf-right P (page_numbers ns) (pages_above pages d (below pages ns)) s) have.1 step),
    )

pub times-here : (q : ℕ) (qs : List ℕ) → times q (q ∷ qs) ≡ 1 + times q qs
times-here q qs = let same : (q == q) ≡ true = eq-eqb q q refl in rw same refl

-- what holds of each page outside `changed` holds along a list that has none of these
pub all_elsewhere : (P : ℕ → Type 0) (changed qs : List ℕ) → ((x : ℕ) → times x changed ≡ 0 → P x) → ((x : ℕ) → times x qs + times x changed ≤ 1) → AllOf P qs
all_elsewhere P changed [] f apart = tt
all_elsewhere P changed (q ∷ qs) f apart =
    (f q (omega (arith, apart q, times-here q qs)), all_elsewhere P changed qs f (λ x. omega (arith, apart x)))
