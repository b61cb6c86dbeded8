-- The order of keys, as a test.
use Rattle.std.proofs.Common.{◌≡◌, Bool, true, false, refl, ap, ◌∙◌, inl, inr, ◌⊎◌}
use Rattle.std.specs.declared.cmp.Ordering.{Ordering}
use Rattle.std.specs.declared.cmp.Ordering.TheVariants.{Less, Equal, Greater}
use Rattle.std.specs.Ordering.{is_lt, ordering_reverse, eq_by_cmp, is_eq}
use Rattle.std.specs.Cmp.{IsTotalOrder}
use Rattle.std.proofs.lemmas.Cmp.{nat_list_cmp_total, tied_itself}
use Rattle.std.proofs.lemmas.Map.Lookups.{exact_bytes}
use Rattle.im_base_types.specs.Keys.{Key, key_order}
use Rattle.im_base_types.specs.Maps.{is_below}

pub keys_total : IsTotalOrder key_order
keys_total = nat_list_cmp_total

less_of : (o : Ordering) → is_lt o ≡ true → o ≡ Less
less_of Less h = refl
less_of Equal h = absurd cc
less_of Greater h = absurd cc

pub below-itself : (a : Key) → is_below a a ≡ false
unfolding is_below
below-itself a = ap is_lt (tied_itself keys_total a)

pub below-trans : (a b c : Key) → is_below a b ≡ true → is_below b c ≡ true → is_below a c ≡ true
unfolding is_below
below-trans a b c h k = ap is_lt (keys_total.trans a b c (less_of _ h) (less_of _ k))

cases_order_of : (a b : Key) (o : Ordering) → key_order a b ≡ o → (is_lt o ≡ true) ⊎ ((a ≡ b) ⊎ (is_lt (ordering_reverse o) ≡ true))
cases_order_of a b Less e = inl refl
cases_order_of a b Equal e = inr (inl (exact_bytes a b e))
cases_order_of a b Greater e = inr (inr refl)

-- two keys are the same, or one is below the other
pub cases_keys : (a b : Key) → (is_below a b ≡ true) ⊎ ((a ≡ b) ⊎ (is_below b a ≡ true))
unfolding is_below
cases_keys a b =
    elim (cases_order_of a b (key_order a b) refl) [
      | inl h ↦ inl h
      | inr (inl e) ↦ inr (inl e)
      | inr (inr h) ↦ inr (inr (ap is_lt (keys_total.antisymm b a) ∙ h))
    ]

pub below-not : (a b : Key) → is_below a b ≡ true → is_below b a ≡ true → ⊥
below-not a b h k = let e : is_below a a ≡ true = below-trans a b a h k in let f : is_below a a ≡ false = below-itself a in cc

-- keys are equal or not
pub same_key : (a b : Key) → (a ≡ b) ⊎ (a ≡ b → ⊥)
same_key a b =
    elim (cases_keys a b) [
      | inl h ↦ inr (λ e. let g : is_below b b ≡ true = rw e at h in let f = below-itself b in cc)
      | inr (inl e) ↦ inl e
      | inr (inr h) ↦ inr (λ e. let g : is_below b b ≡ true = rw e at h in let f = below-itself b in cc)
    ]

pub not_below_of : (a b : Key) → is_below a b ≡ true → is_below b a ≡ false
not_below_of a b h = go (is_below b a) refl
  where
    go : (t : Bool) → is_below b a ≡ t → t ≡ false
    go true e = absurd (below-not a b h e)
    go false e = refl

pub same_not_below : (a b : Key) → a ≡ b → is_below a b ≡ false
same_not_below a b e = rw e (below-itself b)

-- a ≤ b and b < c give a < c
pub below_after : (a b c : Key) → is_below b a ≡ false → is_below b c ≡ true → is_below a c ≡ true
below_after a b c h k =
    elim (cases_keys a b) [
      | inl l ↦ below-trans a b c l k
      | inr (inl e) ↦ rw e k
      | inr (inr g) ↦ absurd (let f : is_below b a ≡ false = h in cc)
    ]

-- a < b and b ≤ c give a < c
pub below_before : (a b c : Key) → is_below a b ≡ true → is_below c b ≡ false → is_below a c ≡ true
below_before a b c h k =
    elim (cases_keys b c) [
      | inl l ↦ below-trans a b c h l
      | inr (inl e) ↦ let g : is_below a c ≡ true = rw e at h in g
      | inr (inr g) ↦ absurd (let f : is_below c b ≡ false = k in cc)
    ]

-- a ≤ b and b ≤ c give a ≤ c
pub upto_trans : (a b c : Key) → is_below b a ≡ false → is_below c b ≡ false → is_below c a ≡ false
upto_trans a b c h k = go (is_below c a) refl
  where
    go : (t : Bool) → is_below c a ≡ t → t ≡ false
    go true e = absurd (let f : is_below c b ≡ true = below_before c a b e h in cc)
    go false e = refl

-- a ≤ b and b ≤ a give a ≡ b
pub upto_both : (a b : Key) → is_below b a ≡ false → is_below a b ≡ false → a ≡ b
upto_both a b h k =
    elim (cases_keys a b) [
      | inl l ↦ absurd (let f : is_below a b ≡ true = l in cc)
      | inr (inl e) ↦ e
      | inr (inr l) ↦ absurd (let f : is_below b a ≡ true = l in cc)
    ]

equal_of : (o : Ordering) → is_eq o ≡ true → o ≡ Equal
equal_of Less h = absurd cc
equal_of Equal h = refl
equal_of Greater h = absurd cc

pub tied_keys : (a b : Key) → eq_by_cmp key_order a b ≡ true → a ≡ b
tied_keys a b h = exact_bytes a b (equal_of _ h)

pub tied_same : (a b : Key) → a ≡ b → eq_by_cmp key_order a b ≡ true
tied_same a b e = rw e (ap is_eq (tied_itself keys_total b))

pub apart_keys : (a b : Key) → (a ≡ b → ⊥) → eq_by_cmp key_order a b ≡ false
apart_keys a b ne = go (eq_by_cmp key_order a b) refl
  where
    go : (t : Bool) → eq_by_cmp key_order a b ≡ t → t ≡ false
    go true e = absurd (ne (tied_keys a b e))
    go false e = refl
