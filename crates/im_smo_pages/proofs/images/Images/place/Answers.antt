use Rattle.std.proofs.Common.{arith, ◌-◌, ◌/◌, ◌+◌}
use Rattle.im_smo_pages.proofs.ImageLemmas.{search_below, search_above}
use Rattle.im_smo_pages.proofs.images.Images.place.Goals as goal

pub loop-low-preserved-then-number : goal.loop-low-preserved-then-number
loop-low-preserved-then-number c = record {
  order = omega arith;
  within = c.loop-low.invariant.within;
  below = search_below c.args.self.now (c.loop-low.low + (c.loop-low.high - c.loop-low.low) / 2) c.args.number (rw (← c.self.view_is) c.self.invariant) (omega (arith, c.loop-low.invariant.within)) (omega arith);
  above = c.loop-low.invariant.above;
}

pub loop-low-preserved : goal.loop-low-preserved
loop-low-preserved c = record {
  order = omega arith;
  within = omega (arith, c.loop-low.invariant.within);
  below = c.loop-low.invariant.below;
  above = search_above c.args.self.now (c.loop-low.low + (c.loop-low.high - c.loop-low.low) / 2) c.args.number (rw (← c.self.view_is) c.self.invariant) (omega arith);
}
