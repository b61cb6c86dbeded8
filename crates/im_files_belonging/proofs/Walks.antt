-- A walk that is stuck stays where it is.
use Rattle.std.proofs.Common.{◌≡◌, ℕ, zero, suc, ◌+◌, ◌-◌, ◌≤◌, List, drop, ◌∙◌, ap, arith}
use Rattle.im_files_belonging.specs.declared.left_log.LeftLog.{LeftLog}
use Rattle.im_files_belonging.specs.LeftLog.{step_of, walk_piece}

module _ (start : ℕ) (piece : List ℕ) (l : LeftLog) where
  further : (n k : ℕ) → step_of (walk_piece n start piece l) (drop ((walk_piece n start piece l).place - start) piece) ≡ walk_piece n start piece l → walk_piece (n + k) start piece l ≡ walk_piece n start piece l
  further n zero stuck = ap (λ (m : ℕ). walk_piece m start piece l) (let same : n + zero ≡ n = omega arith in same)
  further n (suc k) stuck =
      let same = further n k stuck in
      ap (λ (m : ℕ). walk_piece m start piece l) (let next : n + suc k ≡ suc (n + k) = omega arith in next)
      ∙ ap (λ (w : LeftLog). step_of w (drop (w.place - start) piece)) same
      ∙ stuck

  pub stays : (n m : ℕ) → n ≤ m → step_of (walk_piece n start piece l) (drop ((walk_piece n start piece l).place - start) piece) ≡ walk_piece n start piece l → walk_piece m start piece l ≡ walk_piece n start piece l
  stays n m within stuck = ap (λ (k : ℕ). walk_piece k start piece l) (let is : m ≡ n + (m - n) = omega (arith, within) in is) ∙ further n (m - n) stuck
