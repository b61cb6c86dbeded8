-- A tree of two leaves by computation, and what is wrong with trees that wrong steps leave.
use Rattle.std.proofs.Common.{◌≡◌, ◌≤◌, ℕ, [], ◌∷◌, Some, None, refl, ap, inl, inr, ⊎_elim, arith, nat_lt, if◌then◌else◌, ne_eqb}
use Rattle.std.proofs.lemmas.Bool.Decides.{nat_tests}
use Rattle.im_base_types.specs.declared.page_kind.PageKind.TheVariants.{Free}
use Rattle.std.specs.FinMap.Entries.{find}
use Rattle.im_base_types.specs.Keys.{Key, key_order, IsBelow}
use Rattle.im_theory_tree.specs.Levels.{walk}
use Rattle.im_theory_tree.specs.Good.{times, IsGoodTree}
use Rattle.im_theory_tree.specs.Variants.{key_a, key_b, key_c, two_leaves, lost_separator, high_separator, still_chained, used_twice, not_given_back, IsChildLeft}

four_once : (p : ℕ) → times p (0 ∷ 1 ∷ 2 ∷ 3 ∷ []) ≡ (if nat_lt p 4 then 1 else 0)
four_once p = grind (arith, nat_tests)

-- past the first four, a page is free
four_past : (p : ℕ) → 4 ≤ p → (two_leaves p).kind ≡ Free
four_past p past =
    rw (ne_eqb p 0 (λ e. omega (arith, e, past)), ne_eqb p 1 (λ e. omega (arith, e, past)), ne_eqb p 2 (λ e. omega (arith, e, past)), ne_eqb p 3 (λ e. omega (arith, e, past))) refl

pub two_leaves_good : IsGoodTree two_leaves [] × (walk two_leaves ≡ (key_a, 7) ∷ (key_b, 8) ∷ (key_c, 9) ∷ [])
two_leaves_good = (
  record {
    meta = refl;
    levels = (((refl, refl), tt), ((refl, refl), ((refl, refl), tt)));
    ordered = (((tt, record { less = refl }), tt), tt, (((inl refl, tt), ((inr (record { less = refl }), tt), tt)), tt, tt));
    chained = (refl, refl, (refl, refl, tt));
    free = refl;
    cover = λ p. four_once p;
    past = four_past;
  },
  refl,
)

none_is_one : (n : ℕ) → n ≡ 0 → n ≡ 1 → ⊥
none_is_one n a b = omega (arith, a, b)

two_is_one : (n : ℕ) → n ≡ 2 → n ≡ 1 → ⊥
two_is_one n a b = omega (arith, a, b)

pub lost_separator_bad : IsGoodTree lost_separator [] → ⊥
lost_separator_bad good = none_is_one 0 refl (good.cover 3)

pub not_given_back_bad : IsGoodTree not_given_back [] → ⊥
not_given_back_bad good = none_is_one 0 refl (good.cover 3)

pub used_twice_bad : IsGoodTree used_twice [] → ⊥
used_twice_bad good = two_is_one 2 refl (good.cover 3)

not_next : (n : ℕ) → n ≡ 3 → n ≡ 0 → ⊥
not_next n a b = omega (arith, a, b)

pub still_chained_bad : IsGoodTree still_chained [] → ⊥
still_chained_bad good = not_next 3 refl good.chained.1

abbrev first_byte : Key → ℕ
first_byte [] = 0
first_byte (n ∷ ns) = n

not_both : (n : ℕ) → n ≡ 99 → n ≡ 98 → ⊥
not_both n a b = omega (arith, a, b)

first_key : key_c ≡ key_b → ⊥
first_key e = not_both 99 refl (ap first_byte e)

not_below : IsBelow key_c key_b → ⊥
not_below h = let e = h.less in cc

pub high_separator_bad : IsGoodTree high_separator [] → ⊥
high_separator_bad good = ⊎_elim first_key not_below good.ordered.2.0.0.0

-- a search that goes left at a separator that equals the key comes to leaf 2, which lacks it
pub left_at_equal : IsChildLeft (two_leaves 1) key_b 2 × (find key_order key_b (two_leaves 2).entries ≡ None) × (find key_order key_b (walk two_leaves) ≡ Some 8)
left_at_equal = (inl (refl, inl refl), refl, refl)
