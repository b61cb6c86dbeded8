-- What a log has named grows with it.
use Rattle.std.proofs.Common.{◌≡◌, inl, inr, ℕ, ◌+◌, ◌≤◌, ◌∷◌, arith}
use Rattle.std.specs.Prelude.{max}
use Rattle.std.proofs.lemmas.Bool.{cases_Bool, cond-true, cond-false}
use Rattle.im_base_types.specs.Records.{Logged}
use Rattle.im_theory_log.specs.Histories.{Base, History}
use Rattle.im_theory_log.specs.PageCounts.{count_of, named_to, names_page}

pub named_up : (r : Logged) (older : History) → named_to older ≤ named_to (r ∷ older)
named_up r older = elim (cases_Bool (names_page r.what)) [
  | inl names ↦ (let is : named_to (r ∷ older) ≡ max (r.page + 1) (named_to older) = cond-true (names_page r.what) (max (r.page + 1) (named_to older)) (named_to older) names in omega (arith, is))
  | inr not ↦ (let is : named_to (r ∷ older) ≡ named_to older = cond-false (names_page r.what) (max (r.page + 1) (named_to older)) (named_to older) not in omega (arith, is))
]

-- a count that is as before
pub still_named : (b : Base) (r : Logged) (older : History) (new old : ℕ) → new ≡ old → old ≤ max (count_of b) (named_to older) → new ≤ max (count_of b) (named_to (r ∷ older))
still_named b r older new old same low = let up = named_up r older in omega (arith, up, same, low)
