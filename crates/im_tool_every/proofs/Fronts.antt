-- The beginning of a file, over zeros.
use Rattle.std.proofs.Common.{◌≡◌, ◌<◌, ◌-◌, ◌+◌, ℕ, List, ◌++◌, length, take, drop, replicate, sym, ◌∙◌, ap, arith}
use Rattle.std.proofs.Math.Seq.{take-append-add}
use Rattle.std.proofs.lemmas.List.{drop-replicate, take-replicate}

-- a file with fewer bytes than are wanted, and zeros after them
pub over_zeros : (file : List ℕ) → length file < 65 → file ++ drop (length file) (replicate 65 0) ≡ take 65 (file ++ replicate 65 0)
over_zeros file short =
    let rest = 65 - length file in
    let parts : length file + rest ≡ 65 = omega (arith, short) in
    let filled : take rest (replicate 65 0) ≡ replicate rest 0 = take-replicate rest 65 0 (omega (arith, short)) in
    ap (λ (zeros : List ℕ). file ++ zeros) (drop-replicate (length file) 65 0 ∙ sym filled)
    ∙ sym (take-append-add file (replicate 65 0) rest)
    ∙ ap (λ (n : ℕ). take n (file ++ replicate 65 0)) parts
