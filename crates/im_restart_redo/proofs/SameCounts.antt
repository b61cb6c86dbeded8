-- Records that are of each page in the same order are applied as often.
use Rattle.std.proofs.Common.{◌≡◌, ◌⊎◌, inl, inr, ℕ, ◌+◌, ◌≤◌, List, [], ◌∷◌, Bool, true, false, refl, sym, ◌∙◌, ap, subst, arith}
use Rattle.std.specs.Prelude.{if◌then◌else◌, ◌==◌}
use Rattle.std.proofs.Math.Path.{fun_ext}
use Rattle.std.proofs.lemmas.Bool.{cases_eq, eq-eqb, ne_eqb}
use Rattle.im_base_types.specs.Pages.{Page}
use Rattle.im_base_types.specs.Records.{Logged}
use Rattle.im_page_rounds.specs.Rounds.{EachOnce, AreOf, applied_of_all, applied_to, of_page, sum_over, times}
use Rattle.im_page_rounds.proofs.Pages.{own_records}
use Rattle.im_page_rounds.proofs.Sums.{counts_add}
use Rattle.im_restart_redo.proofs.Ordered.{one_here}

-- different pages that have all of these records
record IsCover (rs : List Logged) : Type 0 where
  pub pages : List ℕ
  pub each : EachOnce pages
  pub all : AreOf pages rs

of_more : (q : ℕ) (ps : List ℕ) (rs : List Logged) → AreOf ps rs → AreOf (q ∷ ps) rs
of_more q ps [] all = tt
of_more q ps (r ∷ rs) all = (by (r.page == q), of_more q ps rs all.1)
  where
    by : (t : Bool) → 1 ≤ (if t then 1 else 0) + times r.page ps
    by true = omega arith
    by false = let some : 1 ≤ times r.page ps = all.0 in omega (arith, some)

cover : (rs : List Logged) → IsCover rs
cover [] = record { pages = []; each = tt; all = tt }
cover (r ∷ rs) =
    let rest = cover rs in
    elim (cases_eq (times r.page rest.pages) 0) [
      | inl none ↦ record { pages = r.page ∷ rest.pages; each = (none, rest.each); all = (one_here r.page rest.pages, of_more r.page rest.pages rs rest.all) }
      | inr some ↦ record { pages = rest.pages; each = rest.each; all = (omega (arith, some), rest.all) }
    ]

page_here : (p : ℕ) (r : Logged) (rs : List Logged) → r.page ≡ p → of_page p (r ∷ rs) ≡ r ∷ of_page p rs
page_here p r rs e = ap (λ (t : Bool). if t then r ∷ of_page p rs else of_page p rs) (eq-eqb r.page p e)

page_other : (p : ℕ) (r : Logged) (rs : List Logged) → (r.page ≡ p → ⊥) → of_page p (r ∷ rs) ≡ of_page p rs
page_other p r rs ne = ap (λ (t : Bool). if t then r ∷ of_page p rs else of_page p rs) (ne_eqb r.page p ne)

-- each page has none of them, or is one of these
has_of : (ps : List ℕ) (rs : List Logged) → AreOf ps rs → (p : ℕ) → (of_page p rs ≡ []) ⊎ (1 ≤ times p ps)
has_of ps [] all p = inl refl
has_of ps (r ∷ rs) all p = elim (cases_eq r.page p) [
  | inl e ↦ inr (subst (λ (n : ℕ). 1 ≤ times n ps) e all.0)
  | inr ne ↦ subst (λ (l : List Logged). (l ≡ []) ⊎ (1 ≤ times p ps)) (sym (page_other p r rs ne)) (has_of ps rs all.1 p)
]

none_more : (p : ℕ) (r : Logged) (rs : List Logged) (P : Type 0) → (of_page p (r ∷ rs) ≡ []) ⊎ P → (of_page p rs ≡ []) ⊎ P
none_more p r rs P (inr is) = inr is
none_more p r rs P (inl none) = elim (cases_eq r.page p) [
  | inl e ↦ absurd (let clash : r ∷ of_page p rs ≡ [] = sym (page_here p r rs e) ∙ none in cc clash)
  | inr ne ↦ inl (sym (page_other p r rs ne) ∙ none)
]

some_here : (r : Logged) (rs : List Logged) (P : Type 0) → (of_page r.page (r ∷ rs) ≡ []) ⊎ P → P
some_here r rs P (inr is) = is
some_here r rs P (inl none) = absurd (let clash : r ∷ of_page r.page rs ≡ [] = sym (page_here r.page r rs refl) ∙ none in cc clash)

of_has : (ps : List ℕ) (rs : List Logged) → ((p : ℕ) → (of_page p rs ≡ []) ⊎ (1 ≤ times p ps)) → AreOf ps rs
of_has ps [] has = tt
of_has ps (r ∷ rs) has = (some_here r rs (1 ≤ times r.page ps) (has r.page), of_has ps rs (λ p. none_more p r rs (1 ≤ times p ps) (has p)))

pub same_count : (xs ys : List Logged) (g : ℕ → Page) → ((p : ℕ) → of_page p xs ≡ of_page p ys) → applied_of_all xs g ≡ applied_of_all ys g
same_count xs ys g same =
    let c = cover xs in
    let all : AreOf c.pages ys = of_has c.pages ys (λ p. subst (λ (l : List Logged). (l ≡ []) ⊎ (1 ≤ times p c.pages)) (same p) (has_of c.pages xs c.all p)) in
    let one : (λ (p : ℕ). applied_to xs p (g p)) ≡ (λ (p : ℕ). applied_to ys p (g p)) =
    fun_ext (λ (p : ℕ). sym (own_records.count xs p (g p)) ∙ ap (λ (l : List Logged). applied_to l p (g p)) (same p) ∙ own_records.count ys p (g p)) in
    sym (counts_add c.pages xs g c.each c.all) ∙ ap (λ (f : ℕ → ℕ). sum_over c.pages f) one ∙ counts_add c.pages ys g c.each all
