use Rattle.std.proofs.Common.{◌-◌, ℕ, ◌<◌, ◌≤◌, length}
use Rattle.im_smo_pages.specs.Images.{image_at}
use Rattle.im_smo_pages.proofs.images.Images.place.Given as goal

abbrev pub invariant-loop-low : goal.invariant-loop-low
invariant-loop-low l = record {
  order : l.low ≤ l.high;
  within : l.high ≤ length l.self;
  below : (k : ℕ) → k < l.low → (image_at l.self k).0 < l.number;
  above : (k : ℕ) → l.high ≤ k → k < length l.self → l.number ≤ (image_at l.self k).0;
}

abbrev pub decreases-loop-low : goal.decreases-loop-low
decreases-loop-low l = l.high - l.low
