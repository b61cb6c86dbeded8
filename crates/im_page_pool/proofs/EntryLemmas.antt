-- Entries by number and by frame: look-ups, and what stands where.
use Rattle.std.proofs.Common.{◌≡◌, ◌≢◌, ⊎_elim, ℕ, zero, suc, ◌+◌, ◌-◌, ◌<◌, ◌≤◌, Bool, true, false, cond, ◌==◌, List, [], ◌∷◌, ◌++◌, map, length, nat_eq, slice_index, Some, None, slice_get, refl, sym, ap, subst, ◌∙◌, arith}
use Rattle.std.proofs.lemmas.Bool.{cases_lt}
use Rattle.std.proofs.lemmas.Bool.Decides.{nat_tests}
use Rattle.std.proofs.lemmas.List.{length_push}
use Rattle.std.specs.Map.{keys_of, values_of, lookup, lookup_entry, remove_entry}
use Rattle.lru.specs.LruCache.{last_entry}
use Rattle.im_page_pool.specs.Places.{PlacesView, times, frame_count, AreApart}

pub same : (p q : ℕ) → nat_eq p q ≡ true → p ≡ q
same p q t = grind (arith, nat_tests)

pub differ : (p q : ℕ) → p ≢ q → nat_eq p q ≡ false
differ p q ne = grind (arith, nat_tests)

pub itself : (p : ℕ) → nat_eq p p ≡ true
itself p = grind (arith, nat_tests)

-- ---- look-ups in lists of entries
module _ {X : Type 0} where
  -- the entry found has the number asked for
  pub entry_found : (p : ℕ) (es : List (ℕ × X)) (x : X) → lookup (nat_eq p) es ≡ Some x → lookup_entry (nat_eq p) es ≡ Some (p, x)
  entry_found p [] x s = cc
  entry_found p (e ∷ es) x s = (elim (nat_eq p e.0) as (λ y. nat_eq p e.0 ≡ y → cond y (Some e) (lookup_entry (nat_eq p) es) ≡ Some (p, x)) [
    | true ↦ λ t. let s' = rw t at s in let k : e.0 ≡ p = sym (same p e.0 t) in let v : e.1 ≡ x = cc in
        subst (λ (n : ℕ). Some e ≡ Some (n, x)) k (subst (λ (y : X). Some e ≡ Some (e.0, y)) v refl)
    | false ↦ λ t. entry_found p es x (rw t at s)
  ]) refl

  -- without an entry, each other number finds what it found
  pub lookup_others : (p q : ℕ) (es : List (ℕ × X)) → q ≢ p → lookup (nat_eq q) (remove_entry (nat_eq p) es) ≡ lookup (nat_eq q) es
  lookup_others p q [] ne = refl
  lookup_others p q (e ∷ es) ne = (elim (nat_eq p e.0) as (λ y. nat_eq p e.0 ≡ y → lookup (nat_eq q) (cond y es (e ∷ remove_entry (nat_eq p) es)) ≡ lookup (nat_eq q) (e ∷ es)) [
    | true ↦ λ t. let k : p ≡ e.0 = same p e.0 t in let d : nat_eq q e.0 ≡ false = differ q e.0 (λ (b : q ≡ e.0). ne (b ∙ sym k)) in rw d
    | false ↦ λ t. ap (λ o. cond (nat_eq q e.0) (Some e.1) o) (lookup_others p q es ne)
  ]) refl

  -- a number that stands nowhere finds nothing
  pub lookup_nowhere : (p : ℕ) (es : List (ℕ × X)) → times p (keys_of es) ≡ 0 → lookup (nat_eq p) es ≡ None
  lookup_nowhere p [] none = refl
  lookup_nowhere p (e ∷ es) none = (elim (nat_eq p e.0) as (λ y. nat_eq p e.0 ≡ y → cond y (Some e.1) (lookup (nat_eq p) es) ≡ None) [
    | true ↦ λ t. absurd (let k : (p == e.0) ≡ true = t in let n' = rw k at none in omega arith)
    | false ↦ λ t. let k : (p == e.0) ≡ false = t in let n' = rw k at none in lookup_nowhere p es (omega arith)
  ]) refl

  -- and the other way round
  pub nowhere_from_none : (p : ℕ) (es : List (ℕ × X)) → lookup (nat_eq p) es ≡ None → times p (keys_of es) ≡ 0
  nowhere_from_none p [] none = refl
  nowhere_from_none p (e ∷ es) none = (elim (nat_eq p e.0) as (λ y. nat_eq p e.0 ≡ y → times p (keys_of (e ∷ es)) ≡ 0) [
    | true ↦ λ t. absurd (let n' = rw t at none in cc)
    | false ↦ λ t. let k : (p == e.0) ≡ false = t in let h = nowhere_from_none p es (rw t at none) in rw k (omega arith)
  ]) refl

  -- how often a number stands among keys, values or the like, without an entry
  pub times_removed : (test : ℕ → Bool) (g : ℕ × X → ℕ) (q : ℕ) (es : List (ℕ × X)) (e : ℕ × X) → lookup_entry test es ≡ Some e → times q (map g (remove_entry test es)) + cond (q == g e) 1 0 ≡ times q (map g es)
  times_removed test g q [] e s = cc
  times_removed test g q (f ∷ es) e s = (elim (test f.0) as (λ y. test f.0 ≡ y → times q (map g (cond y es (f ∷ remove_entry test es))) + cond (q == g e) 1 0 ≡ times q (map g (f ∷ es))) [
    | true ↦ λ t. let s' = rw t at s in let k : f ≡ e = cc in rw (← k) (omega arith)
    | false ↦ λ t. let h = times_removed test g q es e (rw t at s) in omega arith
  ]) refl

-- ---- the places that look-ups find
-- a place that is found stands among the values
found_place : (p f : ℕ) (es : List (ℕ × ℕ)) → lookup (nat_eq p) es ≡ Some f → 1 ≤ times f (values_of es)
found_place p f [] s = absurd cc
found_place p f (e ∷ es) s = (elim (nat_eq p e.0) as (λ y. nat_eq p e.0 ≡ y → 1 ≤ times f (values_of (e ∷ es))) [
  | true ↦ λ t. let s' = rw t at s in let v : e.1 ≡ f = cc in let k : (f == e.1) ≡ true = grind (arith, nat_tests) in rw k (omega arith)
  | false ↦ λ t. let h = found_place p f es (rw t at s) in omega arith
]) refl

-- two numbers with one place: it stands there twice
found_twice : (p q f : ℕ) (es : List (ℕ × ℕ)) → p ≢ q → lookup (nat_eq p) es ≡ Some f → lookup (nat_eq q) es ≡ Some f → 2 ≤ times f (values_of es)
found_twice p q f [] ne s z = absurd cc
found_twice p q f (e ∷ es) ne s z = (elim (nat_eq p e.0) as (λ y. nat_eq p e.0 ≡ y → 2 ≤ times f (values_of (e ∷ es))) [
  | true ↦ λ t.
      let s' = rw t at s in let v : e.1 ≡ f = cc in let k : (f == e.1) ≡ true = grind (arith, nat_tests) in
      let d : nat_eq q e.0 ≡ false = differ q e.0 (λ (b : q ≡ e.0). ne (same p e.0 t ∙ sym b)) in
      let h = found_place q f es (rw d at z) in rw k (omega arith)
  | false ↦ λ t. (elim (nat_eq q e.0) as (λ y. nat_eq q e.0 ≡ y → 2 ≤ times f (values_of (e ∷ es))) [
    | true ↦ λ u.
        let z' = rw u at z in let v : e.1 ≡ f = cc in let k : (f == e.1) ≡ true = grind (arith, nat_tests) in
        let h = found_place p f es (rw t at s) in rw k (omega arith)
    | false ↦ λ u. let h = found_twice p q f es ne (rw t at s) (rw u at z) in omega arith
  ]) refl
]) refl

-- a number in a list stands there
pub times_at : (gs : List ℕ) (i : ℕ) → i < length gs → 1 ≤ times (slice_index gs i) gs
times_at [] i lt = absurd (omega arith)
times_at (g ∷ gs) zero lt = let k : (g == g) ≡ true = grind (arith, nat_tests) in rw k (omega arith)
times_at (g ∷ gs) (suc i) lt = let h = times_at gs i (omega arith) in omega arith

module _ (v : PlacesView) (apart : AreApart v) where
  most_once : (f : ℕ) → times f (values_of v.taken) + times f v.free ≤ 1
  most_once f = ⊎_elim (λ (h : f < frame_count v). let e = apart.once f h in omega arith) (λ (h : frame_count v ≤ f). let e = apart.never f h in omega arith) (cases_lt f (frame_count v))

  pub place_within : (p f : ℕ) → lookup (nat_eq p) v.taken ≡ Some f → f < frame_count v
  place_within p f s = ⊎_elim (λ (h : f < frame_count v). h) (λ (h : frame_count v ≤ f). let e = apart.never f h in let w = found_place p f v.taken s in absurd (omega arith)) (cases_lt f (frame_count v))

  pub places_differ : (p q f g : ℕ) → p ≢ q → lookup (nat_eq p) v.taken ≡ Some f → lookup (nat_eq q) v.taken ≡ Some g → g ≢ f
  places_differ p q f g ne s z = λ (b : g ≡ f). absurd (let m = most_once f in let w = found_twice p q f v.taken ne s (z ∙ ap (λ (n : ℕ). Some n) b) in omega arith)

  -- a free frame
  pub free_within : (i : ℕ) → i < length v.free → slice_index v.free i < frame_count v
  free_within i lt =
      let f : ℕ = slice_index v.free i in
      ⊎_elim (λ (h : f < frame_count v). h) (λ (h : frame_count v ≤ f). let e = apart.never f h in let w = times_at v.free i lt in absurd (omega arith)) (cases_lt f (frame_count v))

  pub free_not_taken : (i : ℕ) → i < length v.free → times (slice_index v.free i) (values_of v.taken) ≡ 0
  free_not_taken i lt = let m = most_once (slice_index v.free i) in let w = times_at v.free i lt in omega arith

-- ---- the last entry
at_place : (es : List (ℕ × ℕ)) (i p f : ℕ) → slice_get es i ≡ Some (p, f) → 1 ≤ times p (keys_of es)
at_place [] i p f s = absurd cc
at_place (e ∷ es) zero p f s = let k : e.0 ≡ p = cc in let t : (p == e.0) ≡ true = grind (arith, nat_tests) in rw t (omega arith)
at_place (e ∷ es) (suc i) p f s = let h = at_place es i p f s in omega arith

-- an entry at a place is found by its number, which stands there once
pub found_there : (es : List (ℕ × ℕ)) (i p f : ℕ) → times p (keys_of es) ≤ 1 → slice_get es i ≡ Some (p, f) → lookup (nat_eq p) es ≡ Some f
found_there [] i p f once s = absurd cc
found_there (e ∷ es) zero p f once s = let k : e.0 ≡ p = cc in let v : e.1 ≡ f = cc in let t : nat_eq p e.0 ≡ true = grind (arith, nat_tests) in rw t (ap (λ (n : ℕ). Some n) v)
found_there (e ∷ es) (suc i) p f once s = (elim (nat_eq p e.0) as (λ y. nat_eq p e.0 ≡ y → cond y (Some e.1) (lookup (nat_eq p) es) ≡ Some f) [
  | true ↦ λ t. absurd (let k : (p == e.0) ≡ true = t in let o = rw k at once in let h = at_place es i p f s in omega arith)
  | false ↦ λ t. let k : (p == e.0) ≡ false = t in let o = rw k at once in found_there es i p f (omega arith) s
]) refl

pub last_found : (es : List (ℕ × ℕ)) (p f : ℕ) → times p (keys_of es) ≤ 1 → slice_get es (length es - 1) ≡ Some (p, f) → lookup (nat_eq p) es ≡ Some f
last_found es p f once s = found_there es (length es - 1) p f once s

none_past : (es : List (ℕ × ℕ)) (i : ℕ) → slice_get es i ≡ None → length es ≤ i
none_past [] i s = omega arith
none_past (e ∷ es) zero s = absurd cc
none_past (e ∷ es) (suc i) s = let h = none_past es i s in omega arith

pub last_none : (es : List (ℕ × ℕ)) → slice_get es (length es - 1) ≡ None → es ≡ []
last_none [] s = refl
last_none (e ∷ es) s = absurd (let h = none_past (e ∷ es) (length (e ∷ es) - 1) s in omega arith)

-- an entry that stands in a front stands in the list
pub in_front : (es : List (ℕ × ℕ)) (e x : ℕ × ℕ) (i : ℕ) → slice_get es i ≡ Some x → slice_get (es ++ e ∷ []) i ≡ Some x
in_front [] e x i s = absurd cc
in_front (d ∷ es) e x zero s = s
in_front (d ∷ es) e x (suc i) s = in_front es e x i s

pub at_end : (es : List (ℕ × ℕ)) (e : ℕ × ℕ) → slice_get (es ++ e ∷ []) (length es) ≡ Some e
at_end [] e = refl
at_end (d ∷ es) e = at_end es e

pub last_push : (es : List (ℕ × ℕ)) (e : ℕ × ℕ) → last_entry (es ++ e ∷ []) ≡ Some e
last_push es e = let k : length (es ++ e ∷ []) - 1 ≡ length es = omega (arith, length_push es e) in ap (slice_get (es ++ e ∷ [])) k ∙ at_end es e
