use Rattle.std.proofs.Common.{◌≡◌, ℕ, ◌<◌, ◌≤◌, slice_index}
use Rattle.im_theory_page.specs.Number.{SameOutside}
use Rattle.im_page.proofs.removal.clear.Given as goal

abbrev pub invariant-loop-k : goal.invariant-loop-k
invariant-loop-k l = record {
  zeros : (k : ℕ) → l.from ≤ k → k < l.k → slice_index l.bytes k ≡ 0;
  rest : SameOutside l.initial.bytes l.bytes l.from l.k;
}
