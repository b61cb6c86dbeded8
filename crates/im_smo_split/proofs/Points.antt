-- A page has one split point, and a key one child in an inner page.
use Rattle.std.proofs.Common.{◌≡◌, ℕ, zero, suc, ◌+◌, ◌<◌, ◌≤◌, Bool, List, [], ◌∷◌, take, ⊎_elim, arith}
use Rattle.std.proofs.lemmas.Bool.{cases_lt}
use Rattle.std.proofs.lemmas.List.Sums.{sum_by-cons}
use Rattle.im_base_types.specs.Pages.{Entry}
use Rattle.im_theory_page.specs.Entry.{size, taken}
use Rattle.im_theory_page.specs.Split.{IsSplitPoint}

-- a longer front takes no less
pub front_grows : (leaf : Bool) (es : List Entry) (i m : ℕ) → i ≤ m → taken leaf (take i es) ≤ taken leaf (take m es)
front_grows leaf es zero m le = omega arith
front_grows leaf [] (suc i) m le = omega arith
front_grows leaf (e ∷ es) (suc i) zero le = absurd (omega (arith, le))
front_grows leaf (e ∷ es) (suc i) (suc m) le =
    omega (
      arith,
      sum_by-cons (λ (x : Entry). size leaf x + 2) e (take i es),
      sum_by-cons (λ (x : Entry). size leaf x + 2) e (take m es),
      front_grows leaf es i m (omega (arith, le)),
    )

pub one_point : (bound : ℕ) (leaf : Bool) (es : List Entry) (n m : ℕ) → IsSplitPoint bound leaf es n → IsSplitPoint bound leaf es m → n ≡ m
one_point bound leaf es n m a b =
    ⊎_elim
    (λ (l : n < m). absurd (omega (arith, a.longest (omega (arith, l, b.within)), front_grows leaf es (n + 1) m (omega (arith, l)), b.fits)))
    (λ (l : m ≤ n).
    ⊎_elim
    (λ (k : m < n). absurd (omega (arith, b.longest (omega (arith, k, a.within)), front_grows leaf es (m + 1) n (omega (arith, k)), a.fits)))
    (λ (k : n ≤ m). let same : n ≡ m = omega (arith, l, k) in same)
    (cases_lt m n))
    (cases_lt n m)
