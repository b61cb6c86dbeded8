-- The list of the pages of a structure change, and the plan that they are.
use Rattle.std.proofs.Common.{◌≡◌, ℕ, zero, suc, ◌+◌, ◌<◌, ◌≤◌, Bool, true, List, [], ◌∷◌, length, Option, Some, None, inl, inr, refl, sym, ap, subst, ◌∙◌, arith, insert, remove, nat_lt, ◌==◌, if◌then◌else◌, false}
use Rattle.std.proofs.Math.ListN.{set}
use Rattle.std.proofs.lemmas.Bool.{cases_eq, cases_order, cond-true, cond-false, eq-eqb, ne_eqb, lt-ltb, le-ltb}
use Rattle.im_base_types.specs.Pages.{Page, Body}
use Rattle.im_theory_log.specs.Tree.{with_body}
use Rattle.im_theory_tree.specs.Levels.{Pages}
use Rattle.im_theory_tree.specs.Good.{AllOf}
use Rattle.im_theory_tree.specs.Plans.{Image as Planned, applied, KnowsPages, PagesAscend}
use Rattle.im_smo_pages.specs.Images.{Numbered, IsAbove, IsRising, image_of, put_image, without_image, image_at, IsFound, LacksImage, plan_of}

-- ---- one step of each list

put_less : (n : ℕ) (p : Page) (x : Numbered) (xs : List Numbered) → x.0 < n → put_image n p (x ∷ xs) ≡ x ∷ put_image n p xs
put_less n p x xs h = cond-true (nat_lt x.0 n) (x ∷ put_image n p xs) (if x.0 == n then (n, p) ∷ xs else (n, p) ∷ x ∷ xs) (lt-ltb x.0 n h)

put_same : (n : ℕ) (p : Page) (x : Numbered) (xs : List Numbered) → x.0 ≡ n → put_image n p (x ∷ xs) ≡ (n, p) ∷ xs
put_same n p x xs h =
    cond-false (nat_lt x.0 n) (x ∷ put_image n p xs) (if x.0 == n then (n, p) ∷ xs else (n, p) ∷ x ∷ xs) (le-ltb x.0 n (omega (arith, h)))
    ∙ cond-true (x.0 == n) ((n, p) ∷ xs) ((n, p) ∷ x ∷ xs) (eq-eqb x.0 n h)

put_more : (n : ℕ) (p : Page) (x : Numbered) (xs : List Numbered) → n < x.0 → put_image n p (x ∷ xs) ≡ (n, p) ∷ x ∷ xs
put_more n p x xs h =
    cond-false (nat_lt x.0 n) (x ∷ put_image n p xs) (if x.0 == n then (n, p) ∷ xs else (n, p) ∷ x ∷ xs) (le-ltb x.0 n (omega (arith, h)))
    ∙ cond-false (x.0 == n) ((n, p) ∷ xs) ((n, p) ∷ x ∷ xs) (ne_eqb x.0 n (λ e. absurd (omega (arith, e, h))))

of_same : (n : ℕ) (x : Numbered) (xs : List Numbered) → x.0 ≡ n → image_of (x ∷ xs) n ≡ Some x.1
of_same n x xs h = cond-true (x.0 == n) (Some x.1) (image_of xs n) (eq-eqb x.0 n h)

of_other : (n : ℕ) (x : Numbered) (xs : List Numbered) → (x.0 ≡ n → ⊥) → image_of (x ∷ xs) n ≡ image_of xs n
of_other n x xs h = cond-false (x.0 == n) (Some x.1) (image_of xs n) (ne_eqb x.0 n h)

without_same : (n : ℕ) (x : Numbered) (xs : List Numbered) → x.0 ≡ n → without_image n (x ∷ xs) ≡ xs
without_same n x xs h = cond-true (x.0 == n) xs (x ∷ without_image n xs) (eq-eqb x.0 n h)

without_other : (n : ℕ) (x : Numbered) (xs : List Numbered) → (x.0 ≡ n → ⊥) → without_image n (x ∷ xs) ≡ x ∷ without_image n xs
without_other n x xs h = cond-false (x.0 == n) xs (x ∷ without_image n xs) (ne_eqb x.0 n h)

-- ---- rising numbers

pub rising_tail : (x : Numbered) (xs : List Numbered) → IsAbove x.0 xs → IsRising xs
rising_tail x [] up = tt
rising_tail x (y ∷ xs) up = up.1

above_less : (m n : ℕ) (xs : List Numbered) → m ≤ n → IsAbove n xs → IsAbove m xs
above_less m n [] le up = tt
above_less m n (x ∷ xs) le up = (let here : n < x.0 = up.0 in omega (arith, here, le), up.1)

pub above_all : (n : ℕ) (xs : List Numbered) (k : ℕ) → IsAbove n xs → k < length xs → n < (image_at xs k).0
above_all n [] k up within = absurd (omega arith)
above_all n (x ∷ xs) zero up within = up.0
above_all n (x ∷ xs) (suc k) up within =
    let rest : x.0 < (image_at xs k).0 = above_all x.0 xs k up.1 (omega arith) in
    let here : n < x.0 = up.0 in
    omega (arith, rest, here)

pub rising_le : (xs : List Numbered) (i j : ℕ) → IsRising xs → i ≤ j → j < length xs → (image_at xs i).0 ≤ (image_at xs j).0
rising_le [] i j up le within = absurd (omega arith)
rising_le (x ∷ xs) zero zero up le within = omega arith
rising_le (x ∷ xs) zero (suc j) up le within = let rest : x.0 < (image_at xs j).0 = above_all x.0 xs j up (omega arith) in omega (arith, rest)
rising_le (x ∷ xs) (suc i) zero up le within = absurd (omega arith)
rising_le (x ∷ xs) (suc i) (suc j) up le within = rising_le xs i j (rising_tail x xs up) (omega arith) (omega arith)

put_above : (n : ℕ) (p : Page) (m : ℕ) (xs : List Numbered) → m < n → IsAbove m xs → IsAbove m (put_image n p xs)
put_above n p m [] low up = (low, tt)
put_above n p m (x ∷ xs) low up = elim (cases_order x.0 n) [
  | inl here ↦ subst (IsAbove m) (sym (put_same n p x xs here)) (low, subst (λ (q : ℕ). IsAbove q xs) here up.1)
  | inr (inl less) ↦ subst (IsAbove m) (sym (put_less n p x xs less)) (up.0, put_above n p x.0 xs less up.1)
  | inr (inr more) ↦ subst (IsAbove m) (sym (put_more n p x xs more)) (low, (more, up.1))
]

pub put_rising : (n : ℕ) (p : Page) (xs : List Numbered) → IsRising xs → IsRising (put_image n p xs)
put_rising n p [] up = tt
put_rising n p (x ∷ xs) up = elim (cases_order x.0 n) [
  | inl here ↦ subst IsRising (sym (put_same n p x xs here)) (subst (λ (q : ℕ). IsAbove q xs) here up)
  | inr (inl less) ↦ subst IsRising (sym (put_less n p x xs less)) (put_above n p x.0 xs less up)
  | inr (inr more) ↦ subst IsRising (sym (put_more n p x xs more)) (more, up)
]

without_above : (n m : ℕ) (xs : List Numbered) → IsAbove m xs → IsAbove m (without_image n xs)
without_above n m [] up = tt
without_above n m (x ∷ xs) up = elim (cases_eq x.0 n) [
  | inl here ↦ subst (IsAbove m) (sym (without_same n x xs here)) (above_less m x.0 xs (let low : m < x.0 = up.0 in omega (arith, low)) up.1)
  | inr other ↦ subst (IsAbove m) (sym (without_other n x xs other)) (up.0, without_above n x.0 xs up.1)
]

pub without_rising : (n : ℕ) (xs : List Numbered) → IsRising xs → IsRising (without_image n xs)
without_rising n [] up = tt
without_rising n (x ∷ xs) up = elim (cases_eq x.0 n) [
  | inl here ↦ subst IsRising (sym (without_same n x xs here)) (rising_tail x xs up)
  | inr other ↦ subst IsRising (sym (without_other n x xs other)) (without_above n x.0 xs up)
]

-- ---- what a search found

found_tail : (x : Numbered) (xs : List Numbered) (n i : ℕ) → IsFound (x ∷ xs) n (suc i) → IsFound xs n i
found_tail x xs n i h = record {
  within = let w : suc i < length (x ∷ xs) = h.within in omega (arith, w);
  below = λ k lt. h.below (suc k) (omega arith);
  here = h.here;
}

absent_tail : (x : Numbered) (xs : List Numbered) (n i : ℕ) → LacksImage (x ∷ xs) n (suc i) → LacksImage xs n i
absent_tail x xs n i h = record {
  within = let w : suc i ≤ length (x ∷ xs) = h.within in omega (arith, w);
  below = λ k lt. h.below (suc k) (omega arith);
  above = λ lt. h.above (omega arith);
}

found_less : (x : Numbered) (xs : List Numbered) (n i : ℕ) → IsFound (x ∷ xs) n (suc i) → x.0 < n
found_less x xs n i h = h.below zero (omega arith)

absent_less : (x : Numbered) (xs : List Numbered) (n i : ℕ) → LacksImage (x ∷ xs) n (suc i) → x.0 < n
absent_less x xs n i h = h.below zero (omega arith)

not_above : (m n : ℕ) (xs : List Numbered) → IsAbove m xs → n ≤ m → image_of xs n ≡ None
not_above m n [] up le = refl
not_above m n (x ∷ xs) up le =
    let here : m < x.0 = up.0 in
    of_other n x xs (λ e. absurd (omega (arith, e, here, le))) ∙ not_above x.0 n xs up.1 (omega (arith, here, le))

pub found_image : (xs : List Numbered) (n i : ℕ) → IsFound xs n i → image_of xs n ≡ Some (image_at xs i).1
found_image [] n i h = absurd (let w : i < length {A = Numbered} [] = h.within in omega (arith, w))
found_image (x ∷ xs) n zero h = of_same n x xs h.here
found_image (x ∷ xs) n (suc i) h =
    let less = found_less x xs n i h in
    of_other n x xs (λ e. absurd (omega (arith, e, less))) ∙ found_image xs n i (found_tail x xs n i h)

pub absent_image : (xs : List Numbered) (n i : ℕ) → IsRising xs → LacksImage xs n i → image_of xs n ≡ None
absent_image [] n i up h = refl
absent_image (x ∷ xs) n zero up h =
    let more : n < x.0 = h.above (omega arith) in
    of_other n x xs (λ e. absurd (omega (arith, e, more))) ∙ not_above x.0 n xs up (omega (arith, more))
absent_image (x ∷ xs) n (suc i) up h =
    let less = absent_less x xs n i h in
    of_other n x xs (λ e. absurd (omega (arith, e, less))) ∙ absent_image xs n i (rising_tail x xs up) (absent_tail x xs n i h)

pub put_found : (n : ℕ) (p : Page) (xs : List Numbered) (i : ℕ) → IsFound xs n i → put_image n p xs ≡ set xs i (n, p)
put_found n p [] i h = absurd (let w : i < length {A = Numbered} [] = h.within in omega (arith, w))
put_found n p (x ∷ xs) zero h = put_same n p x xs h.here
put_found n p (x ∷ xs) (suc i) h = put_less n p x xs (found_less x xs n i h) ∙ ap (λ (l : List Numbered). x ∷ l) (put_found n p xs i (found_tail x xs n i h))

pub put_absent : (n : ℕ) (p : Page) (xs : List Numbered) (i : ℕ) → LacksImage xs n i → put_image n p xs ≡ insert xs i (n, p)
put_absent n p [] zero h = refl
put_absent n p [] (suc i) h = absurd (let w : suc i ≤ length {A = Numbered} [] = h.within in omega (arith, w))
put_absent n p (x ∷ xs) zero h = put_more n p x xs (h.above (omega arith))
put_absent n p (x ∷ xs) (suc i) h = put_less n p x xs (absent_less x xs n i h) ∙ ap (λ (l : List Numbered). x ∷ l) (put_absent n p xs i (absent_tail x xs n i h))

pub without_found : (n : ℕ) (xs : List Numbered) (i : ℕ) → IsFound xs n i → without_image n xs ≡ remove xs i
without_found n [] i h = absurd (let w : i < length {A = Numbered} [] = h.within in omega (arith, w))
without_found n (x ∷ xs) zero h = without_same n x xs h.here
without_found n (x ∷ xs) (suc i) h =
    let less = found_less x xs n i h in
    without_other n x xs (λ e. absurd (omega (arith, e, less))) ∙ ap (λ (l : List Numbered). x ∷ l) (without_found n xs i (found_tail x xs n i h))

pub without_none : (n : ℕ) (xs : List Numbered) → image_of xs n ≡ None → without_image n xs ≡ xs
without_none n [] h = refl
without_none n (x ∷ xs) h = elim (cases_eq x.0 n) [
  | inl here ↦ absurd (let clash : Some x.1 ≡ None = sym (of_same n x xs here) ∙ h in cc clash)
  | inr other ↦ without_other n x xs other ∙ ap (λ (l : List Numbered). x ∷ l) (without_none n xs (sym (of_other n x xs other) ∙ h))
]

-- nothing of a number is left where its page is taken out
pub image_without : (n : ℕ) (xs : List Numbered) → IsRising xs → image_of (without_image n xs) n ≡ None
image_without n [] up = refl
image_without n (x ∷ xs) up = elim (cases_eq x.0 n) [
  | inl here ↦ ap (λ (l : List Numbered). image_of l n) (without_same n x xs here) ∙ not_above x.0 n xs up (omega (arith, here))
  | inr other ↦ ap (λ (l : List Numbered). image_of l n) (without_other n x xs other) ∙ of_other n x (without_image n xs) other ∙ image_without n xs (rising_tail x xs up)
]

-- ---- as a function of the number

pub image_put : (n : ℕ) (p : Page) (xs : List Numbered) → IsRising xs → image_of (put_image n p xs) n ≡ Some p
image_put n p [] up = of_same n (n, p) [] refl
image_put n p (x ∷ xs) up = elim (cases_order x.0 n) [
  | inl here ↦ ap (λ (l : List Numbered). image_of l n) (put_same n p x xs here) ∙ of_same n (n, p) xs refl
  | inr (inl less) ↦
      ap (λ (l : List Numbered). image_of l n) (put_less n p x xs less)
      ∙ of_other n x (put_image n p xs) (λ e. absurd (omega (arith, e, less))) ∙ image_put n p xs (rising_tail x xs up)
  | inr (inr more) ↦ ap (λ (l : List Numbered). image_of l n) (put_more n p x xs more) ∙ of_same n (n, p) (x ∷ xs) refl
]

pub image_put_other : (n m : ℕ) (p : Page) (xs : List Numbered) → (n ≡ m → ⊥) → image_of (put_image n p xs) m ≡ image_of xs m
image_put_other n m p [] other = of_other m (n, p) [] other
image_put_other n m p (x ∷ xs) other = elim (cases_order x.0 n) [
  | inl here ↦
      ap (λ (l : List Numbered). image_of l m) (put_same n p x xs here) ∙ of_other m (n, p) xs other ∙ sym (of_other m x xs (λ e. other (sym here ∙ e)))
  | inr (inl less) ↦
      ap (λ (l : List Numbered). image_of l m) (put_less n p x xs less) ∙ same_head m x (put_image n p xs) xs (image_put_other n m p xs other)
  | inr (inr more) ↦ ap (λ (l : List Numbered). image_of l m) (put_more n p x xs more) ∙ of_other m (n, p) (x ∷ xs) other
]
  where
    same_head : (m : ℕ) (x : Numbered) (xs ys : List Numbered) → image_of xs m ≡ image_of ys m → image_of (x ∷ xs) m ≡ image_of (x ∷ ys) m
    same_head m x xs ys h = ap (λ (o : Option Page). if x.0 == m then Some x.1 else o) h

-- a page taken out and put back is put in its place
pub put_without : (n : ℕ) (p : Page) (xs : List Numbered) → IsRising xs → put_image n p (without_image n xs) ≡ put_image n p xs
put_without n p [] up = refl
put_without n p (x ∷ xs) up = elim (cases_order x.0 n) [
  | inl here ↦
      ap (put_image n p) (without_same n x xs here) ∙ put_behind n p xs (subst (λ (q : ℕ). IsAbove q xs) here up) ∙ sym (put_same n p x xs here)
  | inr (inl less) ↦
      ap (put_image n p) (without_other n x xs (λ e. absurd (omega (arith, e, less)))) ∙ put_less n p x (without_image n xs) less
      ∙ ap (λ (l : List Numbered). x ∷ l) (put_without n p xs (rising_tail x xs up)) ∙ sym (put_less n p x xs less)
  | inr (inr more) ↦
      ap (put_image n p) (without_other n x xs (λ e. absurd (omega (arith, e, more)))) ∙ put_more n p x (without_image n xs) more
      ∙ ap (λ (l : List Numbered). (n, p) ∷ x ∷ l) (without_none n xs (not_above x.0 n xs up (omega (arith, more)))) ∙ sym (put_more n p x xs more)
]
  where
    put_behind : (n : ℕ) (p : Page) (ys : List Numbered) → IsAbove n ys → put_image n p ys ≡ (n, p) ∷ ys
    put_behind n p [] h = refl
    put_behind n p (y ∷ ys) h = put_more n p y ys h.0

-- ---- the search

pub search_below : (xs : List Numbered) (m n : ℕ) → IsRising xs → m < length xs → (image_at xs m).0 < n → (k : ℕ) → k < m + 1 → (image_at xs k).0 < n
search_below xs m n up within less k lt = omega (arith, rising_le xs k m up (omega arith) within, less)

pub search_above : (xs : List Numbered) (m n : ℕ) → IsRising xs → n ≤ (image_at xs m).0 → (k : ℕ) → m ≤ k → k < length xs → n ≤ (image_at xs k).0
search_above xs m n up more k le within = omega (arith, rising_le xs m k up le within, more)

-- ---- what an insertion that succeeded leaves

pub inserted : (now was xs : List Numbered) (t : Bool) (i n : ℕ) (p : Page) → now ≡ (if t then insert was i (n, p) else was) → t ≡ true → was ≡ xs → LacksImage xs n i → now ≡ put_image n p xs
inserted now was xs t i n p is ok same absent =
    is ∙ cond-true t (insert was i (n, p)) was ok ∙ ap (λ (l : List Numbered). insert l i (n, p)) same ∙ sym (put_absent n p xs i absent)

-- ---- as a plan

-- what a page holds where the images are applied
abbrev pub body_or : Option Page → Body → Body
body_or None b = b
body_or (Some p) b = p.body

pub applied_image : (pages : Pages) (xs : List Numbered) (q : ℕ) → applied pages (plan_of pages xs) q ≡ body_or (image_of xs q) (pages q)
applied_image pages [] q = refl
applied_image pages (x ∷ xs) q = applied_first pages x xs q (x.0 == q) refl (applied_image pages xs q)
  where
    applied_first : (pages : Pages) (x : Numbered) (xs : List Numbered) (q : ℕ) (t : Bool) → (x.0 == q) ≡ t → applied pages (plan_of pages xs) q ≡ body_or (image_of xs q) (pages q)
        → applied pages (plan_of pages (x ∷ xs)) q ≡ body_or (image_of (x ∷ xs) q) (pages q)
    applied_first pages x xs q true e rest =
        cond-true (x.0 == q) x.1.body (applied pages (plan_of pages xs) q) e ∙ sym (ap (λ (o : Option Page). body_or o (pages q)) (cond-true (x.0 == q) (Some x.1) (image_of xs q) e))
    applied_first pages x xs q false e rest =
        cond-false (x.0 == q) x.1.body (applied pages (plan_of pages xs) q) e ∙ rest
        ∙ sym (ap (λ (o : Option Page). body_or o (pages q)) (cond-false (x.0 == q) (Some x.1) (image_of xs q) e))

-- a page put in is the one that is applied there
pub applied_put : (pages : Pages) (xs : List Numbered) (n : ℕ) (p : Page) (q : ℕ) → IsRising xs
    → applied pages (plan_of pages (put_image n p xs)) q ≡ with_body (applied pages (plan_of pages xs)) n p.body q
applied_put pages xs n p q up = elim (cases_eq n q) [
  | inl here ↦
      applied_image pages (put_image n p xs) q
      ∙ ap (λ (o : Option Page). body_or o (pages q)) (subst (λ (m : ℕ). image_of (put_image n p xs) m ≡ Some p) here (image_put n p xs up))
      ∙ sym (cond-true (n == q) p.body (applied pages (plan_of pages xs) q) (eq-eqb n q here))
  | inr other ↦
      applied_image pages (put_image n p xs) q ∙ ap (λ (o : Option Page). body_or o (pages q)) (image_put_other n q p xs other)
      ∙ sym (applied_image pages xs q) ∙ sym (cond-false (n == q) p.body (applied pages (plan_of pages xs) q) (ne_eqb n q other))
]

pub plan_knows : (pages : Pages) (xs : List Numbered) → KnowsPages pages (plan_of pages xs)
plan_knows pages [] = tt
plan_knows pages (x ∷ xs) = (refl, plan_knows pages xs)

plan_above : (pages : Pages) (m n : ℕ) (xs : List Numbered) → m ≤ n → IsAbove n xs → AllOf (λ (j : Planned). m < j.page) (plan_of pages xs)
plan_above pages m n [] le up = tt
plan_above pages m n (x ∷ xs) le up = let here : n < x.0 = up.0 in (omega (arith, here, le), plan_above pages m x.0 xs (omega (arith, here, le)) up.1)

pub plan_ascends : (pages : Pages) (xs : List Numbered) → IsRising xs → PagesAscend (plan_of pages xs)
plan_ascends pages [] up = tt
plan_ascends pages (x ∷ xs) up = (plan_above pages x.0 x.0 xs (omega arith) up, plan_ascends pages xs (rising_tail x xs up))
