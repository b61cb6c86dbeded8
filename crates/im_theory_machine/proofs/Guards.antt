-- The name that guards a key: the key where it is there, else the next one; and how it moves when the map changes at one key.
use Rattle.std.proofs.Common.{◌≡◌, ℕ, Bool, true, false, not, cond, ◌∷◌, Option, Some, None, is_some, refl, ap, sym, subst, ◌∙◌, inl, inr, ◌⊎◌}
use Rattle.std.specs.FinMap.{get}
use Rattle.im_base_types.specs.Keys.{Key}
use Rattle.im_base_types.specs.Maps.{IndexMap, is_below, Start, From, Above, is_past, first, last_below}
use Rattle.im_theory_machine.specs.Locks.{Name, At, Asks}
use Rattle.im_theory_machine.specs.Rows.{name_of, next_name, there_or_next, shared, found_row, prev_row}
use Rattle.im_theory_machine.specs.declared.lock_kind.Mode.TheVariants.{Shared}
use Rattle.im_theory_machine.proofs.Order.{below-itself, below-trans, cases_keys, same_key, not_below_of, same_not_below, below_after, below_before, upto_trans}
use Rattle.im_theory_machine.proofs.Search.{IsFirst, UpTo, UpTo-past, first-agrees, first-is, first-by, first-same, IsBetween, IsLast, last-is}

-- the name that guards x
unfoldable pub guard : IndexMap → Key → Name
guard m x = name_of (first (From x) m)

-- n is m but at y
abbrev pub OnlyAt : Key → IndexMap → IndexMap → Type 0
OnlyAt y m n = (x : Key) → (x ≡ y → ⊥) → get n x ≡ get m x

pub not_true : (b : Bool) → not b ≡ true → b ≡ false
not_true true h = absurd cc
not_true false h = refl

pub from_false : (b : Bool) → b ≡ false → not b ≡ true
from_false b e = rw e

pub past_up : (s : Start) (x y : Key) → is_past s y ≡ true → is_below x y ≡ false → is_past s x ≡ true
past_up (From k) x y h l = from_false _ (upto_trans k y x (not_true _ h) l)
past_up (Above k) x y h l = below_before k y x h l

moved : (f : Key → Option ℕ) (s : Start) (o : Option (Key × ℕ)) (y : Key) → IsFirst f s o → UpTo s o y → IsFirst f (From y) o
moved f s None y h u = λ x p. h x (past_up s x y u (not_true _ p))
moved f s (Some e) y h u = record {
  there = h.there;
  past_it = from_false _ u.1;
  least = λ x p l. h.least x (past_up s x y u.0 (not_true _ p)) l;
}

-- each key up to what a search found is guarded by the name of that
pub guard-UpTo : (s : Start) (m : IndexMap) (y : Key) → UpTo s (first s m) y → guard m y ≡ name_of (first s m)
unfolding guard
guard-UpTo s m y u = ap name_of (first-by (From y) m (first s m) (moved (get m) s (first s m) y (first-is s m) u))

-- a change elsewhere: at a key that another name guards
pub first-stable : (m n : IndexMap) (x y : Key) → OnlyAt y m n → (guard m y ≡ guard m x → ⊥) → first (From x) n ≡ first (From x) m
unfolding guard
first-stable m n x y only ne =
    first-same (From x) m n (λ z u. only z (λ q. ne (ap (guard m) (sym q) ∙ guard-UpTo (From x) m z u)))

pub guard-stable : (m n : IndexMap) (x y : Key) → OnlyAt y m n → (guard m y ≡ guard m x → ⊥) → guard n x ≡ guard m x
unfolding guard
guard-stable m n x y only ne = ap name_of (first-stable m n x y only ne)

pub ne-from_guards : (m : IndexMap) (x y : Key) → (guard m y ≡ guard m x → ⊥) → x ≡ y → ⊥
ne-from_guards m x y ne e = ne (ap (guard m) (sym e))

pub guard-there : (m : IndexMap) (k : Key) (r : ℕ) → get m k ≡ Some r → guard m k ≡ At k
unfolding guard
guard-there m k r h = ap name_of (first-by (From k) m (Some (k, r)) (record {
  there = h;
  past_it = from_false _ (below-itself k);
  least = λ x p l. absurd (let f : is_below x k ≡ false = not_true _ p in cc);
}))

at_or_above : (f : Key → Option ℕ) (k : Key) (o : Option (Key × ℕ)) → f k ≡ None → IsFirst f (Above k) o → IsFirst f (From k) o
at_or_above f k None none h = λ x p.
    elim (cases_keys k x) [
      | inl l ↦ h x l
      | inr (inl e) ↦ ap f (sym e) ∙ none
      | inr (inr l) ↦ absurd (let g : is_below x k ≡ false = not_true _ p in let l' : is_below x k ≡ true = l in cc)
    ]
at_or_above f k (Some e) none h = record {
  there = h.there;
  past_it = from_false _ (not_below_of k e.0 h.past_it);
  least = λ x p b.
      elim (cases_keys k x) [
        | inl l ↦ h.least x l b
        | inr (inl q) ↦ ap f (sym q) ∙ none
        | inr (inr l) ↦ absurd (let g : is_below x k ≡ false = not_true _ p in let l' : is_below x k ≡ true = l in cc)
      ];
}

pub guard-absent : (m : IndexMap) (k : Key) → get m k ≡ None → guard m k ≡ next_name m k
unfolding guard
guard-absent m k h = ap name_of (first-by (From k) m (first (Above k) m) (at_or_above (get m) k _ h (first-is (Above k) m)))

there_or_next_at : (m : IndexMap) (k : Key) (o : Option ℕ) → get m k ≡ o → cond (is_some o) (At k) (next_name m k) ≡ guard m k
there_or_next_at m k None h = sym (guard-absent m k h)
there_or_next_at m k (Some r) h = sym (guard-there m k r h)

pub there_or_next-guard : (m : IndexMap) (k : Key) → there_or_next m k ≡ guard m k
there_or_next-guard m k = there_or_next_at m k (get m k) refl

-- ---- below a key

-- where no key lies from x up to k, the first from x on is the first from k on
first-moved : (f : Key → Option ℕ) (k x : Key) (o : Option (Key × ℕ)) → is_below x k ≡ true → ((y : Key) → is_below y x ≡ false → is_below y k ≡ true → f y ≡ None) → IsFirst f (From k) o → IsFirst f (From x) o
first-moved f k x None less none h = λ y p. elim (cases_past y k) [
  | inl past ↦ h y past
  | inr under ↦ none y (not_true _ p) under
]
  where
    cases_past : (y k : Key) → (is_past (From k) y ≡ true) ⊎ (is_below y k ≡ true)
    cases_past y k = by (is_below y k) refl
      where
        by : (b : Bool) → is_below y k ≡ b → (not (is_below y k) ≡ true) ⊎ (is_below y k ≡ true)
        by true is = inr is
        by false is = inl (from_false _ is)
first-moved f k x (Some e) less none h = record {
  there = h.there;
  past_it = from_false _ (not_below_of x e.0 (below_before x k e.0 less (not_true _ h.past_it)));
  least = λ y p l. elim (cases_at y k) [
    | inl under ↦ none y (not_true _ p) under
    | inr over ↦ h.least y (from_false _ over) l
  ];
}
  where
    cases_at : (y k : Key) → (is_below y k ≡ true) ⊎ (is_below y k ≡ false)
    cases_at y k = by (is_below y k) refl
      where
        by : (b : Bool) → is_below y k ≡ b → (is_below y k ≡ true) ⊎ (is_below y k ≡ false)
        by true is = inl is
        by false is = inr is

guard-moved : (m : IndexMap) (k x : Key) → is_below x k ≡ true → ((y : Key) → is_below y x ≡ false → is_below y k ≡ true → get m y ≡ None) → guard m x ≡ name_of (first (From k) m)
unfolding guard
guard-moved m k x less none = ap name_of (first-by (From x) m (first (From k) m) (first-moved (get m) k x (first (From k) m) less none (first-is (From k) m)))

-- each key that the last one below k rests on is guarded by what is at or above k, or is that last one
pub guard-between : (k : Key) (m : IndexMap) (x : Key) → IsBetween (last_below k m) k x → Asks (prev_row k m) (guard m x) Shared
guard-between k m x is = by (last_below k m) (last-is k m) is
  where
    by : (o : Option (Key × ℕ)) → IsLast (get m) k o → IsBetween o k x → Asks (shared (name_of (first (From k) m)) ∷ found_row o) (guard m x) Shared
    by None h less = inl (sym (guard-moved m k x less (λ y p l. h y l)), refl)
    by (Some e) h (less, from) = elim (cases_keys e.0 x) [
      | inl over ↦ inl (sym (guard-moved m k x less (λ y p l. h.greatest y (below_before e.0 x y over p) l)), refl)
      | inr (inl same) ↦ inr (inl (sym (guard-there m e.0 e.1 h.there) ∙ ap (guard m) same, refl))
      | inr (inr under) ↦ absurd (let clash : true ≡ false = sym under ∙ from in cc clash)
    ]

-- ---- a key comes

-- where k is the first from x on
now_first : (m n : IndexMap) (k x : Key) (r : ℕ) → OnlyAt k m n → get n k ≡ Some r → is_below k x ≡ false → ((z : Key) → is_below z x ≡ false → is_below z k ≡ true → get m z ≡ None) → guard n x ≡ At k
unfolding guard
now_first m n k x r only h l none = ap name_of (first-by (From x) n (Some (k, r)) (record {
  there = h;
  past_it = from_false _ l;
  least = λ z p b. only z (λ q. let f : is_below z k ≡ false = same_not_below z k q in cc) ∙ none z (not_true _ p) b;
}))

guard-put_below : (m n : IndexMap) (k x : Key) (r : ℕ) (o : Option (Key × ℕ)) → first (From x) m ≡ o → IsFirst (get m) (From x) o → get m k ≡ None → OnlyAt k m n → get n k ≡ Some r → is_below k x ≡ false → (guard n x ≡ guard m x) ⊎ (guard n x ≡ At k)
unfolding guard
guard-put_below m n k x r None is f none only h l = inr (now_first m n k x r only h l (λ z a b. f z (from_false _ a)))
guard-put_below m n k x r (Some e) is f none only h l =
    elim (cases_keys e.0 k) [
      | inl b ↦ inl (ap name_of (first-same (From x) m n (λ z u. only z (λ q.
          let v : UpTo (From x) (Some e) z = subst (λ (p : Option (Key × ℕ)). UpTo (From x) p z) is u in
          let w : is_below e.0 k ≡ false = rw (← q) v.1 in let b' : is_below e.0 k ≡ true = b in absurd cc))))
      | inr (inl q) ↦ absurd (let a = f.there in let g : get m e.0 ≡ get m k = ap (get m) q in cc)
      | inr (inr b) ↦ inr (now_first m n k x r only h l (λ z a c. f.least z (from_false _ a) (below-trans z k e.0 c b)))
    ]

pub guard-put : (m n : IndexMap) (k x : Key) (r : ℕ) → get m k ≡ None → OnlyAt k m n → get n k ≡ Some r → (guard n x ≡ guard m x) ⊎ (guard n x ≡ At k)
unfolding guard
guard-put m n k x r none only h = go (is_below k x) refl
  where
    go : (b : Bool) → is_below k x ≡ b → (guard n x ≡ guard m x) ⊎ (guard n x ≡ At k)
    go true l = inl (ap name_of (first-same (From x) m n (λ z u. only z (λ q.
        let p : is_below z x ≡ false = not_true _ (UpTo-past (From x) (first (From x) m) z u) in
        let w : is_below z z ≡ true = below_before z x z (let v : is_below k x ≡ true = l in rw q v) p in let w' = below-itself z in absurd cc))))
    go false l = guard-put_below m n k x r (first (From x) m) refl (first-is (From x) m) none only h l

-- ---- a key goes

gone : (f : Key → Option ℕ) (k x : Key) (p : Option (Key × ℕ)) → IsFirst f (Above k) p → f k ≡ None → is_below k x ≡ false → ((z : Key) → is_below z x ≡ false → is_below z k ≡ true → f z ≡ None) → IsFirst f (From x) p
gone f k x None h none l under = λ z q.
    elim (cases_keys k z) [
      | inl b ↦ h z b
      | inr (inl e) ↦ ap f (sym e) ∙ none
      | inr (inr b) ↦ under z (not_true _ q) b
    ]
gone f k x (Some e) h none l under = record {
  there = h.there;
  past_it = from_false _ (not_below_of x e.0 (below_after x k e.0 l h.past_it));
  least = λ z q c.
      elim (cases_keys k z) [
        | inl b ↦ h.least z b c
        | inr (inl g) ↦ ap f (sym g) ∙ none
        | inr (inr b) ↦ under z (not_true _ q) b
      ];
}

above_ne : (k z : Key) → is_below k z ≡ true → z ≡ k → ⊥
above_ne k z h e = let f : is_below k z ≡ false = same_not_below k z (sym e) in cc

-- the next name above k stays when k goes
pub next_name-drop : (m n : IndexMap) (k : Key) → OnlyAt k m n → first (Above k) n ≡ first (Above k) m
next_name-drop m n k only = first-same (Above k) m n (λ z u. only z (above_ne k z (UpTo-past (Above k) (first (Above k) m) z u)))

guard-drop_at : (m n : IndexMap) (k x : Key) (r : ℕ) (o : Option (Key × ℕ)) → first (From x) m ≡ o → IsFirst (get m) (From x) o → get m k ≡ Some r → OnlyAt k m n → get n k ≡ None → (guard n x ≡ guard m x) ⊎ (guard n x ≡ next_name m k)
unfolding guard
guard-drop_at m n k x r None is f h only none = inl (ap name_of (first-same (From x) m n (λ z u. only z (λ q.
    let v : is_past (From x) z ≡ true = UpTo-past (From x) (first (From x) m) z u in let a : get m z ≡ None = f z v in let b : get m z ≡ get m k = ap (get m) q in absurd cc))))
guard-drop_at m n k x r (Some e) is f h only none =
    elim (same_key e.0 k) [
      | inl q ↦ inr (ap name_of (first-by (From x) n (first (Above k) m)
          (gone (get n) k x (first (Above k) m) (first-agrees (get m) (get n) (Above k) (first (Above k) m) (first-is (Above k) m) (λ z u. only z (above_ne k z (UpTo-past (Above k) (first (Above k) m) z u)))) none
          (let p : is_below e.0 x ≡ false = not_true _ f.past_it in rw q at p)
          (λ z a b. only z (λ g. let w : is_below z k ≡ false = same_not_below z k g in absurd cc) ∙ f.least z (from_false _ a) (let b' : is_below z k ≡ true = b in rw q b')))))
      | inr ne ↦ inl (ap name_of (first-same (From x) m n (λ z u. only z (λ q.
          let v : UpTo (From x) (Some e) z = subst (λ (p : Option (Key × ℕ)). UpTo (From x) p z) is u in
          elim (cases_keys z e.0) [
            | inl l ↦ (let a : get m z ≡ None = f.least z v.0 l in let b : get m z ≡ get m k = ap (get m) q in absurd cc)
            | inr (inl g) ↦ ne (sym g ∙ q)
            | inr (inr l) ↦ (let l' : is_below e.0 z ≡ true = l in let w : is_below e.0 z ≡ false = v.1 in absurd cc)
          ]))))
    ]

pub guard-drop : (m n : IndexMap) (k x : Key) (r : ℕ) → get m k ≡ Some r → OnlyAt k m n → get n k ≡ None → (guard n x ≡ guard m x) ⊎ (guard n x ≡ next_name m k)
guard-drop m n k x r h only none = guard-drop_at m n k x r (first (From x) m) refl (first-is (From x) m) h only none

pub guard-gone : (m n : IndexMap) (k : Key) → OnlyAt k m n → get n k ≡ None → guard n k ≡ next_name m k
guard-gone m n k only none = guard-absent n k none ∙ ap name_of (next_name-drop m n k only)
