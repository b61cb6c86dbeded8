-- Fronts of bytes over which others are written.
use Rattle.std.specs.Prelude.{min, max, take, drop}
use Rattle.std.proofs.Common.{◌≡◌, inl, inr, ℕ, ◌+◌, ◌-◌, ◌<◌, ◌≤◌, List, ◌++◌, length, length-append, append_assoc, sym, ◌∙◌, ap, subst, arith}
use Rattle.std.proofs.lemmas.Bool.{cases_lt}
use Rattle.std.proofs.lemmas.List.{drop-take, drop_all, length-drop, length-take-le, take-append-drop, take-append-le, take_at, take_min}
use Rattle.std.proofs.Math.Seq.{take-add, take-append-add}

-- a front of a longer front
pub front_of_front : (n m : ℕ) (d : List ℕ) → n ≤ m → m ≤ length d → take n (take m d) ≡ take n d
front_of_front n m d le long =
    let sum : n + (m - n) ≡ m = omega (arith, le) in
    ap (λ (k : ℕ). take n (take k d)) (sym sum)
    ∙ ap (λ (l : List ℕ). take n l) (take-add n (m - n) d)
    ∙ take_at (take n d) (take (m - n) (drop n d)) n (length-take-le n d (omega (arith, le, long)))

module _ (m at : ℕ) (b d : List ℕ) (le : at ≤ m) (long : m ≤ length d) where
  head_length : length (take at d ++ b) ≡ at + length b
  head_length = let one : length (take at d) ≡ at = length-take-le at d (omega (arith, le, long)) in let sum : length (take at d ++ b) ≡ length (take at d) + length b = length-append (take at d) b in omega (arith, one, sum)

  rest : drop (at + length b) (take m d) ≡ take (max m (at + length b) - (at + length b)) (drop (at + length b) d)
  rest = elim (cases_lt (at + length b) m) [
    | inl less ↦
        let sum : at + length b + (max m (at + length b) - (at + length b)) ≡ m = omega (arith, less) in
        ap (λ (k : ℕ). drop (at + length b) (take k d)) (sym sum) ∙ drop-take (at + length b) (max m (at + length b) - (at + length b)) d
    | inr more ↦
        let size : length (take m d) ≡ m = length-take-le m d long in
        let none : max m (at + length b) - (at + length b) ≡ 0 = omega (arith, more) in
        drop_all (at + length b) (take m d) (omega (arith, size, more)) ∙ sym (ap (λ (k : ℕ). take k (drop (at + length b) d)) none)
  ]

  -- bytes that are written over a front, and over all, leave a front
  pub written_front : take at (take m d) ++ b ++ drop (at + length b) (take m d) ≡ take (max m (at + length b)) (take at d ++ b ++ drop (at + length b) d)
  written_front =
      let sum : length (take at d ++ b) + (max m (at + length b) - (at + length b)) ≡ max m (at + length b) = omega (arith, head_length) in
      ap (λ (l : List ℕ). l ++ b ++ drop (at + length b) (take m d)) (front_of_front at m d le long)
      ∙ ap (λ (l : List ℕ). take at d ++ b ++ l) rest
      ∙ sym (take-append-add (take at d ++ b) (drop (at + length b) d) (max m (at + length b) - (at + length b)))
      ∙ ap (λ (k : ℕ). take k (take at d ++ b ++ drop (at + length b) d)) sum

-- bytes that are written after a front leave it
pub after_front : (m at : ℕ) (b d : List ℕ) → m < at → at ≤ length d → take m (take at d ++ b ++ drop (at + length b) d) ≡ take m d
after_front m at b d less long =
    let size : length (take at d) ≡ at = length-take-le at d long in
    ap (λ (l : List ℕ). take m l) (append_assoc (take at d) b (drop (at + length b) d))
    ∙ take-append-le m (take at d) (b ++ drop (at + length b) d) (omega (arith, size, less)) ∙ front_of_front m at d (omega (arith, less)) long

-- how long they are then
pub written_length : (at : ℕ) (b d : List ℕ) → at ≤ length d → length (take at d ++ b ++ drop (at + length b) d) ≡ max (length d) (at + length b)
written_length at b d long =
    let one : length (take at d) ≡ at = length-take-le at d long in
    let two : length (take at d ++ b ++ drop (at + length b) d) ≡ length (take at d ++ b) + length (drop (at + length b) d) = length-append (take at d ++ b) (drop (at + length b) d) in
    let three : length (take at d ++ b) ≡ length (take at d) + length b = length-append (take at d) b in
    let four : length (drop (at + length b) d) ≡ length d - (at + length b) = length-drop (at + length b) d in
    omega (arith, one, two, three, four)

-- bytes that are there already leave all as it is
pub same_written : (at n : ℕ) (d : List ℕ) → at + n ≤ length d → take at d ++ take n (drop at d) ++ drop (at + length (take n (drop at d))) d ≡ d
same_written at n d long =
    let left : length (drop at d) ≡ length d - at = length-drop at d in
    let size : length (take n (drop at d)) ≡ n = length-take-le n (drop at d) (omega (arith, left, long)) in
    ap (λ (k : ℕ). take at d ++ take n (drop at d) ++ drop (at + k) d) size
    ∙ ap (λ (l : List ℕ). l ++ drop (at + n) d) (sym (take-add at n d))
    ∙ take-append-drop (at + n) d

-- so do as many of them as there are
pub same_any : (at n : ℕ) (d : List ℕ) → at ≤ length d → take at d ++ take n (drop at d) ++ drop (at + length (take n (drop at d))) d ≡ d
same_any at n d long =
    let left : length (drop at d) ≡ length d - at = length-drop at d in
    ap (λ (l : List ℕ). take at d ++ l ++ drop (at + length l) d) (sym (take_min n (drop at d)))
    ∙ same_written at (min n (length (drop at d))) d (omega (arith, left, long))

pub holds_same : (at n : ℕ) (b d : List ℕ) → at ≤ length d → b ≡ take n (drop at d) → d ≡ take at d ++ b ++ drop (at + length b) d
holds_same at n b d long is = sym (subst (λ (l : List ℕ). take at d ++ l ++ drop (at + length l) d ≡ d) (sym is) (same_any at n d long))
