-- How a header of the third format is spelled.
use Rattle.std.proofs.Common.{◌≡◌, ℕ, ◌+◌, ◌≤◌, List, [], ◌∷◌, ◌++◌, length, take, drop, ◌∙◌, ap, arith, append-nil, length-append}
use Rattle.std.specs.Int.{w32, to_be_bytes}
use Rattle.std.proofs.lemmas.List.{drop_all, take_at}
use Rattle.im_log_third_header.specs.declared.header.ThirdHeader.{ThirdHeader}
use Rattle.im_log_third_header.specs.Header.{front, header_sum, numbers}

pub front_long : (h : ThirdHeader) → length h.salt ≡ 3 → length (front h) ≡ 42
front_long h three = let both = length-append (numbers h) h.salt in omega (arith, both, three)

-- with zeros for its sum it has these 42 bytes
pub front_within : (h : ThirdHeader) (bytes : List ℕ) → length h.salt ≡ 3 → bytes ≡ front h ++ 0 ∷ 0 ∷ 0 ∷ 0 ∷ [] → 42 ≤ length bytes
front_within h bytes three is =
    let long = front_long h three in
    let both = length-append (front h) (0 ∷ 0 ∷ 0 ∷ 0 ∷ []) in
    omega (arith, ap length is, both, long)

-- the sum over zeros after the front
pub third_spelled : (begin bytes new : List ℕ) (sum : ℕ) → length begin ≡ 42 → bytes ≡ begin ++ 0 ∷ 0 ∷ 0 ∷ 0 ∷ [] → sum ≡ header_sum (take 42 bytes) → new ≡ take 42 bytes ++ to_be_bytes w32 sum ++ drop 46 bytes
    → new ≡ begin ++ to_be_bytes w32 (header_sum begin)
third_spelled begin bytes new sum long is summed put =
    let front_is : take 42 bytes ≡ begin = ap (take 42) is ∙ take_at begin (0 ∷ 0 ∷ 0 ∷ 0 ∷ []) 42 long in
    let size : length bytes ≡ 46 = let both = length-append begin (0 ∷ 0 ∷ 0 ∷ 0 ∷ []) in omega (arith, ap length is, both, long) in
    let none : drop 46 bytes ≡ [] = drop_all 46 bytes (omega (arith, size)) in
    put
    ∙ ap (λ (l : List ℕ). l ++ to_be_bytes w32 sum ++ drop 46 bytes) front_is
    ∙ ap (λ (l : List ℕ). begin ++ to_be_bytes w32 sum ++ l) none
    ∙ append-nil (begin ++ to_be_bytes w32 sum)
    ∙ ap (λ (s : ℕ). begin ++ to_be_bytes w32 s) (summed ∙ ap header_sum front_is)
