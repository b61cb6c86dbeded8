-- Where locks stand: what the places of an index of names find, and what stays of them.
use Rattle.std.proofs.Common.{◌≡◌, ℕ, zero, suc, ◌<◌, Bool, true, false, ◌&&◌, ◌||◌, nat_eq, List, [], ◌∷◌, ◌++◌, length, refl, ap, sym, subst, ◌∙◌, ◌⊎◌, inl, inr, arith, ne_eqb}
use Rattle.std.proofs.lemmas.Bool.Decides.{nat_tests}
use Rattle.im_theory_machine.specs.Locks.{Name, Lock}
use Rattle.im_theory_machine.specs.declared.lock_kind.Mode.{Mode}
use Rattle.im_engine_locks.specs.Index.{same_lock, is_held}
use Rattle.im_engine_locks.specs.Places.{same_span, is_place, is_among, is_at, is_there, finds, places_at, Covers, KeepsAll, KeepsBut, KeepsApart, KeepsOthers}
use Rattle.im_engine_locks.specs.declared.place.Place.{Place}
use Rattle.im_engine_locks.specs.declared.place.Span.{Span}
use Rattle.im_engine_locks.specs.declared.place.Span.TheVariants.{Lasting, Falling}
use Rattle.im_engine_locks.specs.declared.name_index.NameIndex.{NameIndex}
use Rattle.im_theory_machine.proofs.Bools.{or_true, either, and_true, first_of_and, second_of_and}
use Rattle.im_engine_locks.proofs.Names.{same_lock-name}

pub number_is : (a b : ℕ) → nat_eq a b ≡ true → a ≡ b
number_is a b h = grind (arith, nat_tests)

pub same_span-is : (a b : Span) → same_span a b ≡ true → a ≡ b
same_span-is Lasting Lasting h = refl
same_span-is Lasting Falling h = cc
same_span-is Falling Lasting h = cc
same_span-is Falling Falling h = refl

pub same_span-itself : (a : Span) → same_span a a ≡ true
same_span-itself Lasting = refl
same_span-itself Falling = refl

-- ---- in one list

pub at-held : (ls : List Lock) (i : ℕ) (n : Name) (m : Mode) → is_at ls i n m ≡ true → is_held ls n m ≡ true
at-held [] i n m h = h
at-held (l ∷ ls) zero n m h = ap (λ b. b || is_held ls n m) h
at-held (l ∷ ls) (suc i) n m h = or_true (same_lock l n m) (is_held ls n m) (at-held ls i n m h)

pub record Stands (ls : List Lock) (n : Name) (m : Mode) : Type 0 where
  pub number : ℕ
  pub there : is_at ls number n m ≡ true

pub held-at : (ls : List Lock) (n : Name) (m : Mode) → is_held ls n m ≡ true → Stands ls n m
held-at [] n m h = cc
held-at (l ∷ ls) n m h =
    elim (either (same_lock l n m) (is_held ls n m) h) [
      | inl e ↦ record { number = zero; there = e }
      | inr r ↦ (let p : Stands ls n m = held-at ls n m r in record { number = suc p.number; there = p.there })
    ]

-- ---- what is found is exactly what is held

among-finds : (ps : List Place) (s : ℕ) (f : Span) (i : ℕ) (ls : List Lock) (n : Name) (m : Mode) → is_among ps s f i ≡ true → is_at ls i n m ≡ true → finds ps s f ls n m ≡ true
among-finds [] s f i ls n m a h = a
among-finds (p ∷ ps) s f i ls n m a h =
    elim (either (is_place p s f i) (is_among ps s f i) a) [
      | inl e ↦ ap (λ b. b || finds ps s f ls n m)
          (and_true (nat_eq p.owner s && same_span p.span f) (is_at ls p.at n m) (first_of_and (nat_eq p.owner s && same_span p.span f) (nat_eq p.at i) e)
          (ap (λ k. is_at ls k n m) (number_is p.at i (second_of_and (nat_eq p.owner s && same_span p.span f) (nat_eq p.at i) e)) ∙ h))
      | inr r ↦ or_true (is_there p s f ls n m) (finds ps s f ls n m) (among-finds ps s f i ls n m r h)
    ]

finds-held : (ps : List Place) (s : ℕ) (f : Span) (ls : List Lock) (n : Name) (m : Mode) → finds ps s f ls n m ≡ true → is_held ls n m ≡ true
finds-held [] s f ls n m h = cc
finds-held (p ∷ ps) s f ls n m h =
    elim (either (is_there p s f ls n m) (finds ps s f ls n m) h) [
      | inl e ↦ at-held ls p.at n m (second_of_and (nat_eq p.owner s && same_span p.span f) (is_at ls p.at n m) e)
      | inr r ↦ finds-held ps s f ls n m r
    ]

same_truth : (a b : Bool) → (a ≡ true → b ≡ true) → (b ≡ true → a ≡ true) → a ≡ b
same_truth true b f g = sym (f refl)
same_truth false true f g = g refl
same_truth false false f g = refl

pub finds-exactly : (ix : NameIndex) (s : ℕ) (f : Span) (ls : List Lock) (n : Name) (m : Mode) → Covers ix s f ls → finds (places_at ix n) s f ls n m ≡ is_held ls n m
finds-exactly ix s f ls n m covers =
    same_truth (finds (places_at ix n) s f ls n m) (is_held ls n m) (finds-held (places_at ix n) s f ls n m)
    (λ h. let p : Stands ls n m = held-at ls n m h in among-finds (places_at ix n) s f p.number ls n m (covers p.number n m p.there) p.there)

-- ---- a lock more at the end, and one less

at-pushed : (ls : List Lock) (l : Lock) (i : ℕ) (n : Name) (m : Mode) → is_at (ls ++ l ∷ []) i n m ≡ true → (is_at ls i n m ≡ true) ⊎ ((i ≡ length ls) × (same_lock l n m ≡ true))
at-pushed [] l zero n m h = inr (refl, h)
at-pushed [] l (suc i) n m h = inl h
at-pushed (k ∷ ks) l zero n m h = inl h
at-pushed (k ∷ ks) l (suc i) n m h =
    elim (at-pushed ks l i n m h) [
      | inl e ↦ inl e
      | inr p ↦ inr ((let q : i ≡ length ks = p.0 in omega arith), p.1)
    ]

pub covers-pushed : (old new : NameIndex) (s : ℕ) (f : Span) (ls ks : List Lock) (l : Lock) → Covers old s f ls → ks ≡ ls ++ l ∷ [] → KeepsAll old new → is_among (places_at new l.name) s f (length ls) ≡ true → Covers new s f ks
covers-pushed old new s f ls ks l covers list kept there i n m h =
    elim (at-pushed ls l i n m (ap (λ (xs : List Lock). is_at xs i n m) (sym list) ∙ h)) [
      | inl e ↦ kept n s f i (covers i n m e)
      | inr p ↦ subst (λ (j : ℕ). is_among (places_at new n) s f j ≡ true) (sym p.0) (subst (λ (k : Name). is_among (places_at new k) s f (length ls) ≡ true) (same_lock-name l n m p.1) there)
    ]

pub at-front : (ls : List Lock) (l : Lock) (i : ℕ) (n : Name) (m : Mode) → is_at ls i n m ≡ true → (is_at (ls ++ l ∷ []) i n m ≡ true) × (i < length ls)
at-front [] l i n m h = cc
at-front (k ∷ ks) l zero n m h = (h, omega arith)
at-front (k ∷ ks) l (suc i) n m h = let p = at-front ks l i n m h in (p.0, (let lt : i < length ks = p.1 in omega arith))

-- the place after the last one goes
pub covers-taken : (old new : NameIndex) (p : Place) (ls : List Lock) → Covers old p.owner p.span ls → p.at ≡ length ls → KeepsBut p old new → Covers new p.owner p.span ls
covers-taken old new p ls covers last kept i n m h =
    let lt : i < length ls = (at-front ls (record { name = n; mode = m }) i n m h).1 in
    kept n p.owner p.span i (ap (λ b. (nat_eq p.owner p.owner && same_span p.span p.span) && b) (ne_eqb p.at i (λ q. omega (arith, q, last, lt))) ∙ and_false (nat_eq p.owner p.owner && same_span p.span p.span)) (covers i n m h)
  where
    and_false : (b : Bool) → (b && false) ≡ false
    and_false true = refl
    and_false false = refl

pub covers-kept : (old new : NameIndex) (s : ℕ) (f : Span) (ls : List Lock) → Covers old s f ls → ((n : Name) (i : ℕ) → is_among (places_at old n) s f i ≡ true → is_among (places_at new n) s f i ≡ true) → Covers new s f ls
covers-kept old new s f ls covers kept i n m h = kept n i (covers i n m h)

-- ---- what stays of the others' places

pub apart-all : (old new : NameIndex) (t : ℕ) (f : Span) → KeepsAll old new → KeepsApart old t f new
apart-all old new t f kept n s g i ne a = kept n s g i a

pub apart-but : (old new : NameIndex) (p : Place) → KeepsBut p old new → KeepsApart old p.owner p.span new
apart-but old new p kept n s g i ne a = kept n s g i (ap (λ b. b && nat_eq p.at i) ne) a

pub apart-on : (a b c : NameIndex) (t : ℕ) (f : Span) → KeepsApart a t f b → KeepsApart b t f c → KeepsApart a t f c
apart-on a b c t f p q n s g i ne h = q n s g i ne (p n s g i ne h)

pub others-apart : (old new : NameIndex) (t : ℕ) (f : Span) → KeepsApart old t f new → KeepsOthers old t new
others-apart old new t f kept n s g i ne a = kept n s g i (ap (λ b. b && same_span f g) ne) a

pub others-on : (a b c : NameIndex) (t : ℕ) → KeepsOthers a t b → KeepsOthers b t c → KeepsOthers a t c
others-on a b c t p q n s g i ne h = q n s g i ne (p n s g i ne h)

-- the other list of t
pub covers-other : (old new : NameIndex) (t : ℕ) (f g : Span) (ls : List Lock) → same_span f g ≡ false → KeepsApart old t f new → Covers old t g ls → Covers new t g ls
covers-other old new t f g ls ne kept covers i n m h = kept n t g i (and_last (nat_eq t t) ∙ refl) (covers i n m h)
  where
    and_last : (b : Bool) → (b && same_span f g) ≡ false
    and_last true = ne
    and_last false = refl
