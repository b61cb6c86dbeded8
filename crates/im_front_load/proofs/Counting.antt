-- Sums over jobs, and over what came of them.
use Rattle.std.proofs.Common.{◌≡◌, ℕ, suc, Option, Some, None, ◌+◌, ◌*◌, ◌<◌, ◌≤◌, IfSome, List, [], ◌∷◌, length, get_or, refl, arith}
use Rattle.std.specs.List.{sum_by}
use Rattle.std.proofs.lemmas.List.Sums.{sum_by-cons}

pub nothing_left : {X : Type 0} (l : List X) → length l ≡ 0 → l ≡ []
nothing_left [] h = refl
nothing_left (x ∷ xs) h = absurd (omega arith)

pub none_is : {X : Type 0} (o : Option X) → ((x : X) → o ≡ Some x → ⊥) → o ≡ None
none_is None h = refl
none_is (Some x) h = absurd (h x refl)

-- a sum that is known twice is no less than what the second is no less than
pub sum_is_more : (o : Option ℕ) (a m k : ℕ) → k ≤ m → IfSome o (λ n. (n ≡ a) × (n ≡ m)) → IfSome o (λ n. k ≤ n)
sum_is_more None a m k le h = tt
sum_is_more (Some n) a m k le h = omega (arith, le, h.1)

pub one_more : (n m : ℕ) → (n + 1) * m ≡ n * m + m
one_more n m = omega arith

module _ {X Y : Type 0} (f : X → ℕ) (g : Y → ℕ) where
  -- numbers that agree place by place have the same sum
  pub same_sums : (xs : List X) (ys : List Y) → length xs ≡ length ys → ((i : ℕ) (d : X) (e : Y) → i < length xs → f (get_or xs i d) ≡ g (get_or ys i e)) → sum_by g ys ≡ sum_by f xs
  same_sums [] [] len h = refl
  same_sums [] (y ∷ ys) len h = absurd (omega arith)
  same_sums (x ∷ xs) [] len h = absurd (omega arith)
  same_sums (x ∷ xs) (y ∷ ys) len h =
      let rest = same_sums xs ys (omega arith) (λ i d e lt. h (suc i) d e (omega arith)) in
      omega (arith, sum_by-cons f x xs, sum_by-cons g y ys, h 0 x y (omega arith), rest)
