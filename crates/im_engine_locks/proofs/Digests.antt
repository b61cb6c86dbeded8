-- What a change at one digest leaves of the places.
use Rattle.std.proofs.Common.{◌≡◌, ℕ, ◌<◌, Bool, true, false, not, ◌&&◌, ◌||◌, cond, nat_eq, List, [], ◌∷◌, ◌++◌, length, Option, Some, Vec, vec_len, ◌==◌, slice_index_or, remove, refl, ap, sym, ◌∙◌, inl, inr, arith, eq-eqb}
use Rattle.std.proofs.lemmas.Bool.Decides.{nat_tests}
use Rattle.std.specs.HashMap.{HashMap, get}
use Rattle.std.specs.Map.{lookup}
use Rattle.im_engine_locks.specs.Places.{same_span, is_place, is_among, without, listed, listed_there, places_in, KeepsList, KeepsListBut}
use Rattle.im_engine_locks.specs.declared.place.Place.{Place}
use Rattle.im_engine_locks.specs.declared.place.Span.{Span}
use Rattle.im_engine_locks.specs.declared.bucket.Bucket.{Bucket}
use Rattle.im_theory_machine.proofs.Bools.{or_true, either, neither, and_true, first_of_and, second_of_and}
use Rattle.im_engine_locks.proofs.Places.{number_is, same_span-is, same_span-itself}

-- ---- one more

pub kept-more : (ps qs : List Place) (p : Place) → qs ≡ ps ++ p ∷ [] → KeepsList ps qs
kept-more ps qs p is s f i h = ap (λ (xs : List Place). is_among xs s f i) is ∙ go ps h
  where
    go : (xs : List Place) → is_among xs s f i ≡ true → is_among (xs ++ p ∷ []) s f i ≡ true
    go [] e = cc
    go (x ∷ xs) e =
        elim (either (is_place x s f i) (is_among xs s f i) e) [
          | inl y ↦ ap (λ b. b || is_among (xs ++ p ∷ []) s f i) y
          | inr y ↦ or_true (is_place x s f i) (is_among (xs ++ p ∷ []) s f i) (go xs y)
        ]

is_place-itself : (p : Place) → is_place p p.owner p.span p.at ≡ true
is_place-itself p = and_true (nat_eq p.owner p.owner && same_span p.span p.span) (nat_eq p.at p.at) (and_true (nat_eq p.owner p.owner) (same_span p.span p.span) (eq-eqb p.owner p.owner refl) (same_span-itself p.span)) (eq-eqb p.at p.at refl)

pub there-more : (ps qs : List Place) (p : Place) → qs ≡ ps ++ p ∷ [] → is_among qs p.owner p.span p.at ≡ true
there-more ps qs p is = ap (λ (xs : List Place). is_among xs p.owner p.span p.at) is ∙ go ps
  where
    go : (xs : List Place) → is_among (xs ++ p ∷ []) p.owner p.span p.at ≡ true
    go [] = ap (λ b. b || false) (is_place-itself p)
    go (x ∷ xs) = or_true (is_place x p.owner p.span p.at) (is_among (xs ++ p ∷ []) p.owner p.span p.at) (go xs)

-- ---- one less

-- one that is this place is another where this is
place_as : (q p : Place) (s : ℕ) (f : Span) (i : ℕ) → is_place q p.owner p.span p.at ≡ true → is_place q s f i ≡ is_place p s f i
place_as q p s f i e =
    let own : (nat_eq q.owner p.owner && same_span q.span p.span) ≡ true = first_of_and (nat_eq q.owner p.owner && same_span q.span p.span) (nat_eq q.at p.at) e in
    ap (λ (o : ℕ). (nat_eq o s && same_span q.span f) && nat_eq q.at i) (number_is q.owner p.owner (first_of_and (nat_eq q.owner p.owner) (same_span q.span p.span) own))
    ∙ (ap (λ (g : Span). (nat_eq p.owner s && same_span g f) && nat_eq q.at i) (same_span-is q.span p.span (second_of_and (nat_eq q.owner p.owner) (same_span q.span p.span) own))
    ∙ ap (λ (a : ℕ). (nat_eq p.owner s && same_span p.span f) && nat_eq a i) (number_is q.at p.at (second_of_and (nat_eq q.owner p.owner && same_span q.span p.span) (nat_eq q.at p.at) e)))

pub without-kept : (p : Place) (ps : List Place) → KeepsListBut p ps (without p ps)
without-kept p [] s f i ne h = h
without-kept p (q ∷ qs) s f i ne h = go (is_place q p.owner p.span p.at) refl (without-kept p qs s f i ne)
  where
    go : (b : Bool) → is_place q p.owner p.span p.at ≡ b → (is_among qs s f i ≡ true → is_among (without p qs) s f i ≡ true) → is_among (cond (not b) (q ∷ without p qs) (without p qs)) s f i ≡ true
    go true e rest =
        elim (either (is_place q s f i) (is_among qs s f i) h) [
          | inl y ↦ (let bad : true ≡ false = sym y ∙ (place_as q p s f i e ∙ ne) in cc)
          | inr y ↦ rest y
        ]
    go false e rest =
        elim (either (is_place q s f i) (is_among qs s f i) h) [
          | inl y ↦ ap (λ b. b || is_among (without p qs) s f i) y
          | inr y ↦ or_true (is_place q s f i) (is_among (without p qs) s f i) (rest y)
        ]

pub without-gone : (p : Place) (ps : List Place) → is_among (without p ps) p.owner p.span p.at ≡ false
without-gone p [] = refl
without-gone p (q ∷ qs) = go (is_place q p.owner p.span p.at) refl (without-gone p qs)
  where
    go : (b : Bool) → is_place q p.owner p.span p.at ≡ b → is_among (without p qs) p.owner p.span p.at ≡ false → is_among (cond (not b) (q ∷ without p qs) (without p qs)) p.owner p.span p.at ≡ false
    go true e rest = rest
    go false e rest = neither (is_place q p.owner p.span p.at) (is_among (without p qs) p.owner p.span p.at) e rest

-- one that is not taken out, and one that is
pub without_first : (p q : Place) (ps : List Place) → is_place q p.owner p.span p.at ≡ false → without p (q ∷ ps) ≡ q ∷ without p ps
without_first p q ps h = ap (λ b. cond (not b) (q ∷ without p ps) (without p ps)) h

pub without_this : (p q : Place) (ps : List Place) → is_place q p.owner p.span p.at ≡ true → without p (q ∷ ps) ≡ without p ps
without_this p q ps h = ap (λ b. cond (not b) (q ∷ without p ps) (without p ps)) h

-- the first of a list that is taken from it, and the others
pub first_moved : (xs ys : List Place) (e : Place) → 0 < length xs → e ≡ slice_index_or xs 0 e → ys ≡ remove xs 0 → e ∷ ys ≡ xs
first_moved [] ys e some is rest = absurd (omega arith)
first_moved (x ∷ xs) ys e some is rest = ap (λ d. d ∷ ys) is ∙ ap (λ zs. x ∷ zs) rest

nothing_in : {A : Type 0} (xs : List A) → length xs ≡ 0 → xs ≡ []
nothing_in [] h = refl
nothing_in (x ∷ xs) h = absurd (omega (arith, h))

pub no_items : {A Y : Type 0} (v : Vec A Y) → (vec_len v == 0) ≡ true → v.items ≡ []
no_items v h = nothing_in v.items (let zero_long : vec_len v ≡ 0 = grind (arith, nat_tests) in sym v.ok.0 ∙ zero_long)

some_in : {A : Type 0} (xs : List A) → (length xs ≡ 0 → ⊥) → 0 < length xs
some_in [] h = absurd (h refl)
some_in (x ∷ xs) h = omega arith

pub some_items : {A Y : Type 0} (v : Vec A Y) → (vec_len v == 0) ≡ false → 0 < length v.items
some_items v h = some_in v.items (λ none. let zero_long : vec_len v ≡ 0 = v.ok.0 ∙ none in let yes : (vec_len v == 0) ≡ true = eq-eqb (vec_len v) 0 zero_long in let never : true ≡ false = sym yes ∙ h in cc)

-- ---- in the map

-- the entries of a map that has w at one digest, and at each other what m has
abbrev pub Puts : {S : Type 0} → HashMap ℕ Bucket S → ℕ → Option Bucket → List (ℕ × Bucket) → Type 0
Puts m d w es = (q : ℕ) → lookup (nat_eq q) es ≡ cond (nat_eq d q) w (get nat_eq m q)

-- what the digest has then
pub put_there : {S : Type 0} (m : HashMap ℕ Bucket S) (es : List (ℕ × Bucket)) (d k : ℕ) (w : Option Bucket) → d ≡ k → Puts m d w es → listed_there (lookup (nat_eq k) es) ≡ listed_there w
put_there m es d k w is puts = ap listed_there (puts k ∙ ap (λ b. cond b w (get nat_eq m k)) (eq-eqb d k is))

-- a place stays, where it stays at this digest
pub put_kept : {S : Type 0} (m : HashMap ℕ Bucket S) (es : List (ℕ × Bucket)) (d : ℕ) (w : Option Bucket) → Puts m d w es → (s : ℕ) (f : Span) (i : ℕ) → (is_among (places_in m d) s f i ≡ true → is_among (listed_there w) s f i ≡ true) → (q : ℕ) → is_among (places_in m q) s f i ≡ true → is_among (listed_there (lookup (nat_eq q) es)) s f i ≡ true
put_kept m es d w puts s f i keeps q h = go (nat_eq d q) refl
  where
    go : (b : Bool) → nat_eq d q ≡ b → is_among (listed_there (lookup (nat_eq q) es)) s f i ≡ true
    go true e =
        let same : d ≡ q = number_is d q e in
        ap (λ o. is_among (listed_there o) s f i) (puts q ∙ ap (λ b. cond b w (get nat_eq m q)) e) ∙ keeps (ap (λ k. is_among (places_in m k) s f i) same ∙ h)
    go false e = ap (λ o. is_among (listed_there o) s f i) (puts q ∙ ap (λ b. cond b w (get nat_eq m q)) e) ∙ h

-- the bucket that was there
pub was_there : {S : Type 0} (m : HashMap ℕ Bucket S) (d : ℕ) (b : Bucket) → Some b ≡ get nat_eq m d → listed b ≡ places_in m d
was_there m d b there = ap listed_there there
