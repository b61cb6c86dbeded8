-- A map that takes a number more.
use Rattle.std.proofs.Common.{◌≡◌, ◌+◌, ℕ, cond, Option, None, is_some, Result, Ok, Err, IsOk, IfOk, ◌∙◌, ap}
use Rattle.std.specs.Prelude.{OnOk}

pub on_gives : {T E P : Type 0} (r : Result T E) → IsOk r → OnOk r P → P
on_gives (Ok x) is p = p
on_gives (Err e) is p = absurd cc

pub grown : {E : Type 0} (r : Result (Option ℕ) E) (n m : ℕ) (o : Option ℕ) → IsOk r → o ≡ None → IfOk r (λ old. old ≡ o) → IfOk r (λ old. m ≡ n + cond (is_some old) 0 1) → m ≡ n + 1
grown (Ok x) n m o is none e l = l ∙ ap (λ (x : Option ℕ). n + cond (is_some x) 0 1) (e ∙ none)
grown (Err x) n m o is none e l = absurd cc
