-- Texts without a byte, and texts cut at it.
use Rattle.std.proofs.Common.{◌≡◌, ◌≢◌, ℕ, ◌+◌, ◌<◌, ◌≤◌, List, [], ◌∷◌, ◌++◌, length, take, get_or, slice_index, refl, sym, subst, arith}
use Rattle.std.proofs.lemmas.List.{take_more}
use Rattle.std.proofs.lemmas.Grind.{common_steps}
use Rattle.std.specs.Str.Parse.{AllDigits}
use Rattle.im_tool_words.specs.Words.{LacksByte}

lacks_push : (b : ℕ) (xs : List ℕ) (c : ℕ) → LacksByte b xs → c ≢ b → LacksByte b (xs ++ c ∷ [])
lacks_push b [] c l n = (n, tt)
lacks_push b (x ∷ xs) c l n = (l.0, lacks_push b xs c l.1 n)

-- one byte more that is another
pub lacks_more : (b : ℕ) (xs : List ℕ) (i : ℕ) → i < length xs → slice_index xs i ≢ b → LacksByte b (take i xs) → LacksByte b (take (i + 1) xs)
lacks_more b xs i within n l = subst (λ (t : List ℕ). LacksByte b t) (sym (take_more xs i 0 within)) (lacks_push b (take i xs) (get_or xs i 0) l n)

-- all bytes
pub lacks_all : (b : ℕ) (xs : List ℕ) (i : ℕ) → length xs ≤ i → LacksByte b (take i xs) → LacksByte b xs
lacks_all b xs i all l = let same : take i xs ≡ xs = grind (arith, common_steps) in subst (λ (t : List ℕ). LacksByte b t) same l

-- a text that has the byte does not lack it
pub lacks_mid : (b : ℕ) (p r : List ℕ) → LacksByte b (p ++ b ∷ r) → ⊥
lacks_mid b [] r l = l.0 refl
lacks_mid b (c ∷ p) r l = lacks_mid b p r l.1

-- a text is cut in one way at the first such byte
pub cut_once : (b : ℕ) (p q r s : List ℕ) → LacksByte b p → LacksByte b q → p ++ b ∷ r ≡ q ++ b ∷ s → (p ≡ q) × (r ≡ s)
cut_once b [] [] r s lp lq e = (refl, cc)
cut_once b [] (c ∷ q) r s lp lq e = let same : c ≡ b = cc in absurd (lq.0 same)
cut_once b (c ∷ p) [] r s lp lq e = let same : c ≡ b = cc in absurd (lp.0 same)
cut_once b (c ∷ p) (d ∷ q) r s lp lq e =
    let head : c ≡ d = cc in
    let tail : p ++ b ∷ r ≡ q ++ b ∷ s = cc in
    let rest = cut_once b p q r s lp.1 lq.1 tail in
    let same : p ≡ q = rest.0 in (cc, rest.1)

-- digits have no space
pub digits_lack : (word : List ℕ) → AllDigits 10 word → LacksByte 32 word
digits_lack [] d = tt
digits_lack (c ∷ word) d = (λ (e : c ≡ 32). let none = subst (λ (x : ℕ). AllDigits 10 (x ∷ [])) e (d.0, tt) in absurd (omega (arith, none.0)), digits_lack word d.1)
