use Rattle.std.proofs.Common.{◌≡◌}
use Rattle.im_front_stats.specs.Counts.{NoLess}
use Rattle.im_front.proofs.share.Share.stats.Given as goal

abbrev pub invariant-loop-i : goal.invariant-loop-i
invariant-loop-i g l = NoLess l.initial.self.read l.self.read × (l.self.made ≡ l.initial.self.made)
