-- Plans applied image by image, and taken back.
use Rattle.std.proofs.Common.{◌≡◌, ℕ, ◌+◌, ◌<◌, Bool, true, false, List, [], ◌∷◌, ◌++◌, refl, sym, ap, subst, ◌∙◌, arith, ◌==◌, if◌then◌else◌}
use Rattle.std.proofs.lemmas.Bool.{eq-eqb, eqb-true, cond-true, cond-false, false_from_ne_true}
use Rattle.im_theory_log.specs.Tree.{with_body}
use Rattle.im_theory_tree.specs.Levels.{Pages}
use Rattle.im_theory_tree.specs.Good.{AllOf, times}
use Rattle.im_theory_tree.specs.Plans.{Image, Plan, planned, applied, restored, KnowsPages, PagesAscend}
use Rattle.im_theory_tree.proofs.Descent.{times-here}

-- a page outside the plan
not_here : (p q : ℕ) (qs : List ℕ) → times q (p ∷ qs) ≡ 0 → (p == q) ≡ false
not_here p q qs h = false_from_ne_true (p == q) (λ e.
    let here : times q (q ∷ qs) ≡ 0 = subst (λ (x : ℕ). times q (x ∷ qs) ≡ 0) (eqb-true p q e) h in
    omega (arith, here, times-here q qs))

pub applied_elsewhere : (pages : Pages) (plan : Plan) (q : ℕ) → times q (planned plan) ≡ 0 → applied pages plan q ≡ pages q
applied_elsewhere pages [] q h = refl
applied_elsewhere pages (i ∷ plan) q h =
    cond-false (i.page == q) i.after (applied pages plan q) (not_here i.page q (planned plan) h) ∙ applied_elsewhere pages plan q (omega (arith, h))

pub restored_elsewhere : (pages : Pages) (plan : Plan) (q : ℕ) → times q (planned plan) ≡ 0 → restored pages plan q ≡ pages q
restored_elsewhere pages [] q h = refl
restored_elsewhere pages (i ∷ plan) q h =
    cond-false (i.page == q) i.before (restored pages plan q) (not_here i.page q (planned plan) h) ∙ restored_elsewhere pages plan q (omega (arith, h))

-- rising numbers are distinct
pub not_behind : (p : ℕ) (plan : Plan) → AllOf (λ (j : Image). p < j.page) plan → times p (planned plan) ≡ 0
not_behind p [] h = refl
not_behind p (j ∷ plan) h = omega (arith, other p j.page plan h.0, not_behind p plan h.1)
  where
    other : (a b : ℕ) (rest : Plan) → a < b → times a (b ∷ planned rest) ≡ times a (planned rest)
    other a b rest lt =
        ap (λ (t : Bool). (if t then 1 else 0) + times a (planned rest)) (false_from_ne_true (a == b) (λ e. omega (arith, eqb-true a b e, lt)))
        ∙ omega arith

-- the images up to one and that one
next_by : (pages : Pages) (front : Plan) (i j : Image) (q : ℕ) (s t : Bool) → (j.page == q) ≡ s → (i.page == q) ≡ t → ((i.page == q) ≡ true → (j.page == q) ≡ false)
    → applied pages (front ++ i ∷ []) q ≡ with_body (applied pages front) i.page i.after q
    → (if j.page == q then j.after else applied pages (front ++ i ∷ []) q) ≡ (if i.page == q then i.after else (if j.page == q then j.after else applied pages front q))
next_by pages front i j q true true es et apart rest = absurd (let clash : true ≡ false = sym es ∙ apart et in cc clash)
next_by pages front i j q true false es et apart rest =
    cond-true (j.page == q) j.after (applied pages (front ++ i ∷ []) q) es
    ∙ sym (cond-false (i.page == q) i.after (if j.page == q then j.after else applied pages front q) et ∙ cond-true (j.page == q) j.after (applied pages front q) es)
next_by pages front i j q false true es et apart rest =
    cond-false (j.page == q) j.after (applied pages (front ++ i ∷ []) q) es ∙ rest ∙ cond-true (i.page == q) i.after (applied pages front q) et
    ∙ sym (cond-true (i.page == q) i.after (if j.page == q then j.after else applied pages front q) et)
next_by pages front i j q false false es et apart rest =
    cond-false (j.page == q) j.after (applied pages (front ++ i ∷ []) q) es ∙ rest ∙ cond-false (i.page == q) i.after (applied pages front q) et
    ∙ sym (cond-false (i.page == q) i.after (if j.page == q then j.after else applied pages front q) et ∙ cond-false (j.page == q) j.after (applied pages front q) es)

pub applied_next : (pages : Pages) (front : Plan) (i : Image) (q : ℕ) → times i.page (planned front) ≡ 0
    → applied pages (front ++ i ∷ []) q ≡ with_body (applied pages front) i.page i.after q
applied_next pages [] i q h = refl
applied_next pages (j ∷ front) i q h =
    next_by pages front i j q (j.page == q) (i.page == q) refl refl
    (λ e. subst (λ (x : ℕ). (j.page == x) ≡ false) (eqb-true i.page q e) (not_here j.page i.page (planned front) h))
    (applied_next pages front i q (omega (arith, h)))

-- a page that is not the image's is not counted there
counts_not : (p q : ℕ) (qs : List ℕ) → (p == q) ≡ false → times q qs ≡ 0 → times q (p ∷ qs) ≡ 0
counts_not p q qs off h =
    let other : (q == p) ≡ false = false_from_ne_true (q == p) (λ e. let clash : true ≡ false = sym (eq-eqb p q (sym (eqb-true q p e))) ∙ off in cc clash) in
    ap (λ (t : Bool). (if t then 1 else 0) + times q qs) other ∙ omega (arith, h)

back_by : (base pages : Pages) (i : Image) (plan : Plan) (q : ℕ) (t : Bool) → (i.page == q) ≡ t → pages i.page ≡ i.before
    → ((i.page == q) ≡ false → restored base plan q ≡ pages q) → (if i.page == q then i.before else restored base plan q) ≡ pages q
back_by base pages i plan q true e knows rest = cond-true (i.page == q) i.before (restored base plan q) e ∙ sym knows ∙ ap pages (eqb-true i.page q e)
back_by base pages i plan q false e knows rest = cond-false (i.page == q) i.before (restored base plan q) e ∙ rest e

-- pages that differ from those that the plan knows on its own pages alone are as they were once it is taken back
pub restored_is : (base pages : Pages) (plan : Plan) (q : ℕ) → KnowsPages pages plan → (times q (planned plan) ≡ 0 → base q ≡ pages q) → restored base plan q ≡ pages q
restored_is base pages [] q knows same = same refl
restored_is base pages (i ∷ plan) q knows same =
    back_by base pages i plan q (i.page == q) refl knows.0
    (λ e. restored_is base pages plan q knows.1 (λ h. same (counts_not i.page q (planned plan) e h)))

-- what was applied and taken back is as it was
pub restored_applied : (pages : Pages) (plan : Plan) (q : ℕ) → KnowsPages pages plan → restored (applied pages plan) plan q ≡ pages q
restored_applied pages plan q knows = restored_is (applied pages plan) pages plan q knows (λ h. applied_elsewhere pages plan q h)

-- one image taken back: the pages are those of the images before it
pub restored_last : (pages : Pages) (front : Plan) (i : Image) (q : ℕ) → times i.page (planned front) ≡ 0 → pages i.page ≡ i.before
    → with_body (applied pages (front ++ i ∷ [])) i.page i.before q ≡ applied pages front q
restored_last pages front i q none knows = here (i.page == q) refl
  where
    here : (t : Bool) → (i.page == q) ≡ t → (if i.page == q then i.before else applied pages (front ++ i ∷ []) q) ≡ applied pages front q
    here true e =
        cond-true (i.page == q) i.before (applied pages (front ++ i ∷ []) q) e
        ∙ sym knows ∙ sym (applied_elsewhere pages front i.page none) ∙ ap (applied pages front) (eqb-true i.page q e)
    here false e =
        cond-false (i.page == q) i.before (applied pages (front ++ i ∷ []) q) e
        ∙ applied_next pages front i q none ∙ cond-false (i.page == q) i.after (applied pages front q) e

pub first_distinct : (i : Image) (plan : Plan) → PagesAscend (i ∷ plan) → times i.page (planned plan) ≡ 0
first_distinct i plan h = not_behind i.page plan h.0
