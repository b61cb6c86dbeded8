-- The first entry past a start and the last below a key, by what each says of the map's look-ups.
use Rattle.std.proofs.Common.{subst, ◌≡◌, ℕ, Bool, true, false, cond, List, [], ◌∷◌, Option, Some, None, ◌&&◌, refl, ap, sym, ◌∙◌, inl, inr, T}
use Rattle.std.specs.FinMap.{entries, get, get-entries, entries_sorted, find, is_sorted}
use Rattle.std.specs.FinMap.Entries.{below_all}
use Rattle.im_base_types.specs.Keys.{Key, key_order}
use Rattle.im_base_types.specs.Maps.{IndexMap, is_below, Start, is_past, first_in, first, last_below, last_in, or_this}
use Rattle.im_theory_machine.proofs.Order.{below-itself, cases_keys, not_below_of, same_not_below, below_after, below_before, tied_same, apart_keys}

-- what the first entry past s says of a look-up f
pub record IsFound (f : Key → Option ℕ) (s : Start) (e : Key × ℕ) : Type 0 where
  pub there : f e.0 ≡ Some e.1
  pub past_it : is_past s e.0 ≡ true
  pub least : (x : Key) → is_past s x ≡ true → is_below x e.0 ≡ true → f x ≡ None

abbrev pub IsFirst : (Key → Option ℕ) → Start → Option (Key × ℕ) → Type 0
IsFirst f s None = (x : Key) → is_past s x ≡ true → f x ≡ None
IsFirst f s (Some e) = IsFound f s e

-- past a start, and at or below what was found there
abbrev pub UpTo : Start → Option (Key × ℕ) → Key → Type 0
UpTo s None x = is_past s x ≡ true
UpTo s (Some e) x = (is_past s x ≡ true) × (is_below e.0 x ≡ false)

pub first-unique : (f : Key → Option ℕ) (s : Start) (o p : Option (Key × ℕ)) → IsFirst f s o → IsFirst f s p → o ≡ p
first-unique f s None None h k = refl
first-unique f s None (Some e) h k = absurd (let a = h e.0 k.past_it in let b = k.there in cc)
first-unique f s (Some e) None h k = absurd (let a = k e.0 h.past_it in let b = h.there in cc)
first-unique f s (Some d) (Some e) h k =
    elim (cases_keys d.0 e.0) [
      | inl l ↦ absurd (let a = k.least d.0 h.past_it l in let b = h.there in cc)
      | inr (inl q) ↦ (let a = h.there in let b = k.there in let c : f d.0 ≡ f e.0 = ap f q in let r : Some d.1 ≡ Some e.1 = sym a ∙ (c ∙ b) in let t : d.1 ≡ e.1 = cc in λ i. Some (q i, t i))
      | inr (inr l) ↦ absurd (let a = h.least e.0 k.past_it l in let b = k.there in cc)
    ]

-- look-ups that agree up to what was found find the same
pub first-agrees : (f g : Key → Option ℕ) (s : Start) (o : Option (Key × ℕ)) → IsFirst f s o → ((x : Key) → UpTo s o x → g x ≡ f x) → IsFirst g s o
first-agrees f g s None h same = λ x p. same x p ∙ h x p
first-agrees f g s (Some e) h same = record {
  there = same e.0 (h.past_it, below-itself e.0) ∙ h.there;
  past_it = h.past_it;
  least = λ x p l. same x (p, not_below_of x e.0 l) ∙ h.least x p l;
}

-- ---- the search itself

abbrev lookup : List (Key × ℕ) → Key → Option ℕ
lookup es x = find key_order x es

and_left_of : (a b : Bool) → T (a && b) → T a
and_left_of true b h = tt
and_left_of false b h = absurd h

both_of : (a b : Bool) → T (a && b) → (a ≡ true) × T b
both_of true b h = (refl, h)
both_of false b h = absurd h

lookup_other : (e : Key × ℕ) (es : List (Key × ℕ)) (x : Key) → (x ≡ e.0 → ⊥) → lookup (e ∷ es) x ≡ lookup es x
lookup_other e es x ne = rw (apart_keys x e.0 ne)

lookup_same : (e : Key × ℕ) (es : List (Key × ℕ)) → lookup (e ∷ es) e.0 ≡ Some e.1
lookup_same e es = rw (tied_same e.0 e.0 refl)

below_ne : (x y : Key) → is_below x y ≡ true → x ≡ y → ⊥
below_ne x y h e = let f : is_below x y ≡ false = same_not_below x y e in cc

pub head_below : (k : Key) (e : Key × ℕ) (es : List (Key × ℕ)) → T (below_all key_order k (e ∷ es)) → (is_below k e.0 ≡ true) × T (below_all key_order k es)
unfolding is_below
head_below k e es h = both_of _ _ h

-- a key at or below one that is below all of the rest is not in the rest
none_below : (k : Key) (es : List (Key × ℕ)) → T (below_all key_order k es) → (x : Key) → is_below k x ≡ false → lookup es x ≡ None
none_below k [] h x l = refl
none_below k (e ∷ es) h x l =
    let p = head_below k e es h in
    lookup_other e es x (below_ne x e.0 (below_after x k e.0 l p.0)) ∙ none_below k es p.1 x l

pub UpTo-past : (s : Start) (o : Option (Key × ℕ)) (x : Key) → UpTo s o x → is_past s x ≡ true
UpTo-past s None x h = h
UpTo-past s (Some e) x h = h.0

pub rest_sorted : (e : Key × ℕ) (es : List (Key × ℕ)) → T (is_sorted key_order (e ∷ es)) → T (is_sorted key_order es)
rest_sorted e es h = (both_of (below_all key_order e.0 es) (is_sorted key_order es) h).1

pub head_least : (e : Key × ℕ) (es : List (Key × ℕ)) → T (is_sorted key_order (e ∷ es)) → T (below_all key_order e.0 es)
head_least e es h = and_left_of (below_all key_order e.0 es) (is_sorted key_order es) h

first_in-is : (s : Start) (es : List (Key × ℕ)) → T (is_sorted key_order es) → IsFirst (lookup es) s (first_in s es)
first_in-is s [] h = λ x p. refl
first_in-is s (e ∷ es) h =
    go (is_past s e.0) refl (head_least e es h) (first_in-is s es (rest_sorted e es h))
  where
    go : (b : Bool) → is_past s e.0 ≡ b → T (below_all key_order e.0 es) → IsFirst (lookup es) s (first_in s es) → IsFirst (lookup (e ∷ es)) s (cond b (Some e) (first_in s es))
    go true p all ih = record {
      there = lookup_same e es;
      past_it = p;
      least = λ x q l. lookup_other e es x (below_ne x e.0 l) ∙ none_below e.0 es all x (not_below_of x e.0 l);
    }
    go false p all ih =
        first-agrees (lookup es) (lookup (e ∷ es)) s (first_in s es) ih
        (λ x u. lookup_other e es x (λ q. let t : is_past s x ≡ true = UpTo-past s (first_in s es) x u in let g : is_past s x ≡ is_past s e.0 = ap (is_past s) q in cc))

pub first-is : (s : Start) (m : IndexMap) → IsFirst (get m) s (first s m)
unfolding first
first-is s m =
    first-agrees (lookup (entries m)) (get m) s (first_in s (entries m)) (first_in-is s (entries m) (entries_sorted m)) (λ x u. get-entries m x)

-- what a search finds is determined by the look-ups
pub first-by : (s : Start) (m : IndexMap) (o : Option (Key × ℕ)) → IsFirst (get m) s o → first s m ≡ o
first-by s m o h = first-unique (get m) s (first s m) o (first-is s m) h

-- maps that agree up to what one finds find the same
pub first-same : (s : Start) (m n : IndexMap) → ((x : Key) → UpTo s (first s m) x → get n x ≡ get m x) → first s n ≡ first s m
first-same s m n same = first-by s n (first s m) (first-agrees (get m) (get n) s (first s m) (first-is s m) same)

-- ---- the last entry below a key

-- the keys that the last entry below k rests on: from it, or from the least on, up to k
abbrev pub IsBetween : Option (Key × ℕ) → Key → Key → Type 0
IsBetween None k x = is_below x k ≡ true
IsBetween (Some e) k x = (is_below x k ≡ true) × (is_below x e.0 ≡ false)

-- what the last entry below k says of a look-up f
pub record IsFoundBelow (f : Key → Option ℕ) (k : Key) (e : Key × ℕ) : Type 0 where
  pub there : f e.0 ≡ Some e.1
  pub below : is_below e.0 k ≡ true
  pub greatest : (x : Key) → is_below e.0 x ≡ true → is_below x k ≡ true → f x ≡ None

abbrev pub IsLast : (Key → Option ℕ) → Key → Option (Key × ℕ) → Type 0
IsLast f k None = (x : Key) → is_below x k ≡ true → f x ≡ None
IsLast f k (Some e) = IsFoundBelow f k e

last-unique : (f : Key → Option ℕ) (k : Key) (o p : Option (Key × ℕ)) → IsLast f k o → IsLast f k p → o ≡ p
last-unique f k None None h g = refl
last-unique f k None (Some e) h g = absurd (let a = h e.0 g.below in let b = g.there in cc)
last-unique f k (Some e) None h g = absurd (let a = g e.0 h.below in let b = h.there in cc)
last-unique f k (Some d) (Some e) h g =
    elim (cases_keys d.0 e.0) [
      | inl l ↦ absurd (let a = h.greatest e.0 l g.below in let b = g.there in cc)
      | inr (inl q) ↦ (let a = h.there in let b = g.there in let c : f d.0 ≡ f e.0 = ap f q in let r : Some d.1 ≡ Some e.1 = sym a ∙ (c ∙ b) in let t : d.1 ≡ e.1 = cc in λ i. Some (q i, t i))
      | inr (inr l) ↦ absurd (let a = g.greatest d.0 l h.below in let b = h.there in cc)
    ]

last-agrees : (f g : Key → Option ℕ) (k : Key) (o : Option (Key × ℕ)) → IsLast f k o → ((x : Key) → IsBetween o k x → g x ≡ f x) → IsLast g k o
last-agrees f g k None h same = λ x p. same x p ∙ h x p
last-agrees f g k (Some e) h same = record {
  there = same e.0 (h.below, below-itself e.0) ∙ h.there;
  below = h.below;
  greatest = λ x p l. same x (l, not_below_of e.0 x p) ∙ h.greatest x p l;
}

last_in-is : (k : Key) (es : List (Key × ℕ)) → T (is_sorted key_order es) → IsLast (lookup es) k (last_in k es)
last_in-is k [] h = λ x p. refl
last_in-is k (e ∷ es) h = go (is_below e.0 k) refl (head_least e es h) (last_in k es) (last_in-is k es (rest_sorted e es h))
  where
    go : (b : Bool) → is_below e.0 k ≡ b → T (below_all key_order e.0 es) → (o : Option (Key × ℕ)) → IsLast (lookup es) k o → IsLast (lookup (e ∷ es)) k (cond b (or_this e o) None)
    go false p all o ih = λ x l.
        let less : is_below x e.0 ≡ true = below_before x k e.0 l p in
        lookup_other e es x (below_ne x e.0 less) ∙ none_below e.0 es all x (not_below_of x e.0 less)
    go true p all None ih = record {
      there = lookup_same e es;
      below = p;
      greatest = λ x q l. lookup_other e es x (λ s. below_ne e.0 x q (sym s)) ∙ ih x l;
    }
    go true p all (Some d) ih = record {
      there = lookup_other e es d.0 (λ s. (let none = none_below e.0 es all d.0 (same_not_below e.0 d.0 (sym s)) in let some = ih.there in let clash : None ≡ Some d.1 = sym none ∙ some in cc clash)) ∙ ih.there;
      below = ih.below;
      greatest = λ x q l.
          lookup_other e es x (λ s.
          let less : is_below d.0 e.0 ≡ true = subst (λ (y : Key). is_below d.0 y ≡ true) s q in
          let none = none_below e.0 es all d.0 (not_below_of d.0 e.0 less) in
          let clash : None ≡ Some d.1 = sym none ∙ ih.there in
          cc clash)
          ∙ ih.greatest x q l;
    }

pub last-is : (k : Key) (m : IndexMap) → IsLast (get m) k (last_below k m)
unfolding last_below
last-is k m = last-agrees (lookup (entries m)) (get m) k (last_in k (entries m)) (last_in-is k (entries m) (entries_sorted m)) (λ x u. get-entries m x)

pub last-by : (k : Key) (m : IndexMap) (o : Option (Key × ℕ)) → IsLast (get m) k o → last_below k m ≡ o
last-by k m o h = last-unique (get m) k (last_below k m) o (last-is k m) h

-- maps that agree on the keys that the last one below k rests on find the same
pub last-same : (k : Key) (m n : IndexMap) → ((x : Key) → IsBetween (last_below k m) k x → get n x ≡ get m x) → last_below k n ≡ last_below k m
last-same k m n same = last-unique (get n) k (last_below k n) (last_below k m) (last-is k n) (last-agrees (get m) (get n) k (last_below k m) (last-is k m) same)
