-- Numbers that rise.
use Rattle.std.proofs.Common.{ℕ, suc, zero, ◌<◌, List, [], ◌∷◌, arith}
use Rattle.im_page_rounds.specs.Hand.{AreRising}

rising_one : (p : ℕ) → AreRising (p ∷ [])
rising_one p i j lt within = absurd (omega (arith, lt, within))

rising_more : (p q : ℕ) (qs : List ℕ) → p < q → AreRising (q ∷ qs) → AreRising (p ∷ q ∷ qs)
rising_more p q qs less rest zero zero lt within = absurd (omega (arith, lt))
rising_more p q qs less rest zero (suc zero) lt within = less
rising_more p q qs less rest zero (suc (suc j)) lt within = let more = rest 0 (suc j) (omega arith) (omega (arith, within)) in omega (arith, less, more)
rising_more p q qs less rest (suc i) zero lt within = absurd (omega (arith, lt))
rising_more p q qs less rest (suc i) (suc j) lt within = rest i j (omega (arith, lt)) (omega (arith, within))

-- the pages of the round
pub pages_rise : AreRising (2 ∷ 3 ∷ 4 ∷ 5 ∷ 6 ∷ 7 ∷ [])
pages_rise = rising_more 2 3 (4 ∷ 5 ∷ 6 ∷ 7 ∷ []) (omega arith) (rising_more 3 4 (5 ∷ 6 ∷ 7 ∷ []) (omega arith) (rising_more 4 5 (6 ∷ 7 ∷ []) (omega arith) (rising_more 5 6 (7 ∷ []) (omega arith) (rising_more 6 7 [] (omega arith) (rising_one 7)))))
