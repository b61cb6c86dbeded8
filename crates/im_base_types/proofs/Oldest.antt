-- The oldest changes of an effect, which a return leaves.
use Rattle.std.proofs.Common.{◌≡◌, ℕ, suc, ◌+◌, ◌<◌, ◌≤◌, Bool, true, false, List, [], ◌∷◌, ◌++◌, length, refl, ap, ◌∙◌, inl, inr, arith, length-append}
use Rattle.std.specs.Prelude.{if◌then◌else◌}
use Rattle.std.proofs.lemmas.Bool.{lt-ltb, le-ltb, cases_lt}
use Rattle.im_base_types.specs.Changes.{Change, Effect}
use Rattle.im_base_types.specs.Lives.{oldest}

-- all of one of no more
pub oldest_all : (n : ℕ) (cs : Effect) → length cs ≤ n → oldest n cs ≡ cs
oldest_all n [] low = refl
oldest_all n (c ∷ cs) low = ap (λ (b : Bool). if b then oldest n cs else c ∷ cs) (le-ltb n (length (c ∷ cs)) low)

-- of one of more, without the newest
pub oldest_more : (n : ℕ) (c : Change) (cs : Effect) → n ≤ length cs → oldest n (c ∷ cs) ≡ oldest n cs
oldest_more n c cs low = ap (λ (b : Bool). if b then oldest n cs else c ∷ cs) (lt-ltb n (length (c ∷ cs)) (omega (arith, low)))

-- the rest, where these are taken back
pub oldest_rest : (more rest : Effect) → oldest (length rest) (more ++ rest) ≡ rest
oldest_rest [] rest = oldest_all (length rest) rest (omega arith)
oldest_rest (c ∷ more) rest =
    let whole : length (more ++ rest) ≡ length more + length rest = length-append more rest in
    oldest_more (length rest) c (more ++ rest) (omega (arith, whole)) ∙ oldest_rest more rest

pub oldest_length : (n : ℕ) (cs : Effect) → n ≤ length cs → length (oldest n cs) ≡ n
oldest_length n [] low = let l : n ≤ 0 = low in omega (arith, l)
oldest_length n (c ∷ cs) low = elim (cases_lt (length cs) n) [
  | inl over ↦ let l : n ≤ suc (length cs) = low in ap length (oldest_all n (c ∷ cs) (omega (arith, l, over))) ∙ (omega (arith, l, over))
  | inr under ↦ ap length (oldest_more n c cs under) ∙ oldest_length n cs under
]
