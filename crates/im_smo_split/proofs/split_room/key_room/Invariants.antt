use Rattle.std.proofs.Common.{◌≤◌, ◌<◌, ◌+◌, ◌-◌, ℕ}
use Rattle.im_theory_page.specs.Entry.{taken, width}
use Rattle.im_theory_page.specs.Page.{is_leaf_kind}
use Rattle.im_smo_split.proofs.split_room.key_room.Given as goal

abbrev pub invariant-loop-low : goal.invariant-loop-low
invariant-loop-low l = record {
  order : l.low ≤ l.high;
  most : l.high ≤ 256;
  fit : (k : ℕ) → k < l.low → taken (is_leaf_kind l.page.body.kind) l.page.body.entries + (1 + k + width (is_leaf_kind l.page.body.kind) + 2) ≤ 4064;
  full : (k : ℕ) → l.high ≤ k → k ≤ 255 → 4064 < taken (is_leaf_kind l.page.body.kind) l.page.body.entries + (1 + k + width (is_leaf_kind l.page.body.kind) + 2);
}

abbrev pub decreases-loop-low : goal.decreases-loop-low
decreases-loop-low l = l.high - l.low
