use Rattle.std.proofs.Common.{◌≡◌, ◌≤◌, length, drop, ℕ, List, ◌-◌}
use Rattle.im_base_types.specs.Keys.{key_order}
use Rattle.im_base_types.proofs.order.compare.Given as goal

-- the keys lie as what is left of them does
pub record Left (a b : List ℕ) (both at : ℕ) : Type 0 where
  pub within : at ≤ both
  pub first : both ≤ length a
  pub second : both ≤ length b
  pub order : key_order a b ≡ key_order (drop at a) (drop at b)

abbrev pub invariant-loop-at : goal.invariant-loop-at
invariant-loop-at l = Left l.a l.b l.both l.at

abbrev pub decreases-loop-at : goal.decreases-loop-at
decreases-loop-at l = l.both - l.at
