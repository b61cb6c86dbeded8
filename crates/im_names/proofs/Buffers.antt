-- The front of a buffer that is filled with FF.
use Rattle.std.proofs.Common.{◌≡◌, ℕ, ◌+◌, ◌-◌, ◌<◌, ◌≤◌, List, [], ◌∷◌, ◌++◌, length, take, replicate, set, refl, sym, ap, ◌∙◌, arith, append_assoc, length-append, length-take-le}
use Rattle.std.proofs.lemmas.List.{append-nil, take_more_set, replicate-append-replicate, length-replicate}
use Rattle.im_names.specs.Layout.{filled}

pub filled_none : (front : List ℕ) (at : ℕ) → front ≡ front ++ replicate (at - at) 255
filled_none front at = sym (ap (λ (n : ℕ). front ++ replicate n 255) (let e : at - at ≡ 0 = omega arith in e) ∙ append-nil front)

pub filled_more : (front now : List ℕ) (at i : ℕ) → at ≤ i → i < length now → take i now ≡ front ++ replicate (i - at) 255
    → take (i + 1) (set now i 255) ≡ front ++ replicate ((i + 1) - at) 255
filled_more front now at i order room e =
    take_more_set now i 255 room ∙ ap (λ (l : List ℕ). l ++ (255 ∷ [])) e ∙ append_assoc front (replicate (i - at) 255) (255 ∷ [])
    ∙ ap (λ (l : List ℕ). front ++ l) (replicate-append-replicate (i - at) 1 255)
    ∙ ap (λ (n : ℕ). front ++ replicate n 255) (let s : (i - at) + 1 ≡ (i + 1) - at = omega arith in s)

-- a front of so many bytes, filled
pub filled_front : (was : List ℕ) (at end : ℕ) → at ≤ length was → take at was ++ replicate (end - at) 255 ≡ filled end (take at was)
unfolding filled
filled_front was at end room = ap (λ (n : ℕ). take at was ++ replicate (end - n) 255) (sym (length-take-le at was room))

pub length_filled : (n : ℕ) (bytes : List ℕ) → length bytes ≤ n → length (filled n bytes) ≡ n
unfolding filled
length_filled n bytes room =
    length-append bytes (replicate (n - length bytes) 255) ∙ ap (λ (m : ℕ). length bytes + m) (length-replicate (n - length bytes) 255)
    ∙ (let e : length bytes + (n - length bytes) ≡ n = omega arith in e)
