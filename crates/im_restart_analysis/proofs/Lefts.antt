-- What is left to undo, below a number: each record of undo takes one off.
use Rattle.std.proofs.Common.{◌≡◌, ◌≢◌, ◌<◌, ◌+◌, ℕ, zero, suc, ◌∷◌, length, true, false, inl, inr, refl, sym, ◌∙◌, ap, arith}
use Rattle.std.specs.Prelude.{if◌then◌else◌}
use Rattle.std.proofs.lemmas.Bool.{cases_eq, cond-true, cond-false}
use Rattle.im_base_types.specs.Records.{Logged}
use Rattle.im_theory_log.specs.Histories.{History}
use Rattle.im_theory_log.specs.Transactions.{to_undo}
use Rattle.im_restart_analysis.specs.Losers.{is_loser}
use Rattle.im_restart_analysis.specs.Undo.{left_of, left_below, LeavesOthers}

pub left_loser : (t : ℕ) (log : History) → is_loser t log ≡ true → left_of t log ≡ length (to_undo t log) + 1
left_loser t log is = cond-true (is_loser t log) (length (to_undo t log) + 1) 0 is

pub left_none : (t : ℕ) (log : History) → is_loser t log ≡ false → left_of t log ≡ 0
left_none t log is = cond-false (is_loser t log) (length (to_undo t log) + 1) 0 is

module _ (t : ℕ) (r : Logged) (log : History) (others : LeavesOthers t r log) (one : left_of t (r ∷ log) + 1 ≡ left_of t log) where
  same_left : (u : ℕ) → u ≢ t → left_of u (r ∷ log) ≡ left_of u log
  same_left u other = λ i. if others.losers u other i then length (others.stacks u other i) + 1 else 0

  below_it : (n : ℕ) → ((u : ℕ) → u < n → u ≢ t) → left_below n (r ∷ log) ≡ left_below n log
  below_it zero apart = refl
  below_it (suc n) apart =
      let rest : left_below n (r ∷ log) ≡ left_below n log = below_it n (λ u lt. apart u (omega (arith, lt))) in
      let here : left_of n (r ∷ log) ≡ left_of n log = same_left n (apart n (omega arith)) in
      omega (arith, rest, here)

  pub one_less : (n : ℕ) → t < n → left_below n (r ∷ log) + 1 ≡ left_below n log
  one_less zero lt = absurd (omega (arith, lt))
  one_less (suc n) lt = elim (cases_eq n t) [
    | inl here ↦
        let rest : left_below n (r ∷ log) ≡ left_below n log = below_it n (λ u less e. omega (arith, less, e, here)) in
        let mine : left_of n (r ∷ log) + 1 ≡ left_of n log = ap (λ (u : ℕ). left_of u (r ∷ log) + 1) here ∙ one ∙ ap (λ (u : ℕ). left_of u log) (sym here) in
        omega (arith, rest, mine)
    | inr other ↦
        let rest : left_below n (r ∷ log) + 1 ≡ left_below n log = one_less n (omega (arith, lt, other)) in
        let same : left_of n (r ∷ log) ≡ left_of n log = same_left n other in
        omega (arith, rest, same)
  ]
