-- The order of keys.
use Rattle.std.proofs.Common.{◌≡◌, ℕ, List, sym, ap, ◌∙◌}
use Rattle.std.specs.Ordering.{nat_cmp, ordering_reverse}
use Rattle.std.specs.Cmp.Lexicographic.{slice_cmp}
use Rattle.std.specs.FinMap.{slice_cmp-IsAntisymmetric, nat_cmp-IsAntisymmetric}
use Rattle.std.proofs.lemmas.Cmp.{nat_list_cmp_total, tied_itself}
use Rattle.std.specs.declared.cmp.Ordering.TheVariants.{Less, Equal, Greater}
use Rattle.im_base_types.specs.Keys.{IsBelow}

pub below_trans : (a b c : List ℕ) → IsBelow a b → IsBelow b c → IsBelow a c
below_trans a b c ab bc = record { less = nat_list_cmp_total.trans a b c ab.less bc.less }

pub below_from_greater : (a b : List ℕ) → Greater ≡ slice_cmp nat_cmp a b → IsBelow b a
below_from_greater a b g = record { less = nat_list_cmp_total.antisymm b a ∙ ap ordering_reverse (sym g) }

pub same_from_equal : (a b : List ℕ) → Equal ≡ slice_cmp nat_cmp a b → a ≡ b
same_from_equal a b e = slice_cmp-IsAntisymmetric nat_cmp-IsAntisymmetric a b (sym e)

pub below_from_less : (a b : List ℕ) → Less ≡ slice_cmp nat_cmp a b → IsBelow a b
below_from_less a b e = record { less = sym e }

pub below_irrefl : (a : List ℕ) → IsBelow a a → ⊥
below_irrefl a h = let e : Equal ≡ Less = sym (tied_itself nat_list_cmp_total a) ∙ h.less in cc
