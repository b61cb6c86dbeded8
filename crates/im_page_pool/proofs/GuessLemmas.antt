-- What the pages by frames say: the frame that has a page is where it is held.
use Rattle.std.proofs.Common.{◌≡◌, ◌≢◌, ⊎_elim, ℕ, zero, suc, ◌+◌, ◌≤◌, true, false, cond, ◌==◌, List, [], ◌∷◌, length, replicate, nat_eq, slice_get, slice_set, Option, Some, None, Result, Ok, Err, MatchResult, is_ok, refl, sym, ap, ◌∙◌, arith}
use Rattle.std.proofs.lemmas.Bool.{cases_eq}
use Rattle.std.proofs.lemmas.Bool.Decides.{nat_tests}
use Rattle.std.specs.Map.{keys_of, lookup}
use Rattle.lru.specs.LruCache.{promoted}
use Rattle.im_page_pool.specs.Places.{times, taken_in, Shows}
use Rattle.im_page_pool.proofs.EntryLemmas.{same, itself}
use Rattle.im_page_pool.proofs.UseLemmas.{Uses, with_first, front, others_front, promoted_front}

-- a page that a frame has stands among the numbers
stands : (p f : ℕ) (es : Uses) → lookup (nat_eq f) es ≡ Some (Some p) → 1 ≤ times p (keys_of (taken_in es))
stands p f [] s = absurd cc
stands p f (e ∷ es) s = (elim (nat_eq f e.0) as (λ y. cond y (Some e.1) (lookup (nat_eq f) es) ≡ Some (Some p) → 1 ≤ times p (keys_of (with_first e.0 e.1 (taken_in es)))) [
  | true ↦ λ k. let v : e.1 ≡ Some p = cc in let t : (p == p) ≡ true = itself p in rw v (rw t (omega arith))
  | false ↦ λ k. (elim e.1 as (λ o. 1 ≤ times p (keys_of (with_first e.0 o (taken_in es)))) [
    | None ↦ stands p f es k
    | Some q ↦ let i = stands p f es k in omega arith
  ])
]) s

-- the page that a frame has is held there
pub held_there : (p f : ℕ) (es : Uses) → ((q : ℕ) → times q (keys_of (taken_in es)) ≤ 1) → lookup (nat_eq f) es ≡ Some (Some p) → lookup (nat_eq p) (taken_in es) ≡ Some f
held_there p f [] once s = absurd cc
held_there p f (e ∷ es) once s = (elim (nat_eq f e.0) as (λ y. nat_eq f e.0 ≡ y → cond y (Some e.1) (lookup (nat_eq f) es) ≡ Some (Some p) → lookup (nat_eq p) (with_first e.0 e.1 (taken_in es)) ≡ Some f) [
  | true ↦ λ t k. let v : e.1 ≡ Some p = cc in let i = itself p in rw v (rw i (ap (λ (n : ℕ). Some n) (sym (same f e.0 t))))
  | false ↦ λ t k. (elim e.1 as (λ o. ((q : ℕ) → times q (keys_of (with_first e.0 o (taken_in es))) ≤ 1) → lookup (nat_eq p) (with_first e.0 o (taken_in es)) ≡ Some f) [
    | None ↦ λ one. held_there p f es one k
    | Some q ↦ λ one. (elim (nat_eq p q) as (λ y. nat_eq p q ≡ y → cond y (Some e.0) (lookup (nat_eq p) (taken_in es)) ≡ Some f) [
      | true ↦ λ u. absurd (let b : (p == q) ≡ true = u in let o = one p in let o' = rw b at o in let i = stands p f es k in omega arith)
      | false ↦ λ u. held_there p f es (λ r. let o = one r in omega arith) k
    ]) refl
  ]) once
]) refl s

-- what a list of notes has after a note: there, and elsewhere
noted_here : (notes : List ℕ) (i x y : ℕ) → slice_get (slice_set notes i x) i ≡ Some y → x ≡ y
noted_here [] i x y s = absurd cc
noted_here (o ∷ l) zero x y s = cc
noted_here (o ∷ l) (suc i) x y s = noted_here l i x y s

noted_else : (notes : List ℕ) (i x g : ℕ) → g ≢ i → slice_get (slice_set notes i x) g ≡ slice_get notes g
noted_else [] i x g ne = refl
noted_else (o ∷ l) zero x zero ne = absurd (ne refl)
noted_else (o ∷ l) zero x (suc g) ne = refl
noted_else (o ∷ l) (suc i) x zero ne = refl
noted_else (o ∷ l) (suc i) x (suc g) ne = noted_else l i x g (λ (e : g ≡ i). ne (ap (λ (n : ℕ). suc n) e))

-- of a frame that there is none of, nothing is noted
pub noted_past : (notes : List ℕ) (i x : ℕ) → length notes ≤ i → notes ≡ slice_set notes i x
noted_past [] i x le = refl
noted_past (o ∷ l) zero x le = absurd (omega arith)
noted_past (o ∷ l) (suc i) x le = ap (λ (k : List ℕ). o ∷ k) (noted_past l i x (omega arith))

zero_in : (n f p : ℕ) → slice_get (replicate n 0) f ≡ Some (p + 1) → ⊥
zero_in zero f p s = cc
zero_in (suc n) zero p s = let k : 0 ≡ p + 1 = cc in omega arith
zero_in (suc n) (suc f) p s = zero_in n f p s

-- nothing is noted at first
pub shows_none : (n : ℕ) (notes : List ℕ) (es : Uses) → notes ≡ replicate n 0 → Shows notes es
shows_none n notes es is f p s = absurd (zero_in n f p (sym (ap (λ (l : List ℕ). slice_get l f) is) ∙ s))

module _ (f : ℕ) (v : Option ℕ) (es : Uses) (there : lookup (nat_eq f) es ≡ Some v) (notes : List ℕ) (shows : Shows notes es) where
  -- a frame goes first, with another page or none
  pub shows_front : (w : Option ℕ) (x : ℕ) (after : Uses) → ((p : ℕ) → x ≡ p + 1 → w ≡ Some p) → after ≡ front f w es → Shows (slice_set notes f x) after
  shows_front w x after means is g p n = ap (lookup (nat_eq g)) is ∙ ⊎_elim
      (λ (e : g ≡ f). let t : nat_eq g f ≡ true = grind (arith, nat_tests) in let k : x ≡ p + 1 = noted_here notes f x (p + 1) (ap (slice_get (slice_set notes f x)) (sym e) ∙ n) in
      rw t (ap (λ (o : Option ℕ). Some o) (means p k)))
      (λ (ne : g ≢ f). others_front f v es there w g ne ∙ shows g p (sym (noted_else notes f x g ne) ∙ n))
      (cases_eq g f)

  -- the frame of a page goes first
  pub shows_promoted : (after : Uses) → after ≡ promoted (nat_eq f) es → Shows notes after
  shows_promoted after is g p n = ap (lookup (nat_eq g)) (is ∙ promoted_front f v es there) ∙ ⊎_elim
      (λ (e : g ≡ f). let t : nat_eq g f ≡ true = grind (arith, nat_tests) in rw t (sym there ∙ ap (λ (k : ℕ). lookup (nat_eq k) es) (sym e) ∙ shows g p n))
      (λ (ne : g ≢ f). others_front f v es there v g ne ∙ shows g p n)
      (cases_eq g f)

pub one_page : (p q : ℕ) → p + 1 ≡ q + 1 → Some p ≡ Some q
one_page p q e = let k : p ≡ q = omega arith in ap (λ (n : ℕ). Some n) k

pub no_page : (q : ℕ) → 0 ≡ q + 1 → None ≡ Some q
no_page q e = absurd (omega arith)

-- what was made, where its refusal was put in other words
pub ok_is : {T E F : Type 0} (r : Result T E) (o : Result T F) (n : T) (Q : E → Type 0) → o ≡ Ok n → MatchResult r (λ x. o ≡ Ok x) Q → true ≡ is_ok r → r ≡ Ok n
ok_is (Ok x) o n Q is same ok = let k = sym is ∙ same in let e : x ≡ n = cc in ap (λ z. Ok z) e
ok_is (Err e) o n Q is same ok = absurd cc
