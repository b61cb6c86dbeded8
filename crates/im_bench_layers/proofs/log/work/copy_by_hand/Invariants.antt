use Rattle.std.specs.Prelude.{◌≤◌}
use Rattle.im_bench_layers.proofs.log.work.copy_by_hand.Given as goal

abbrev pub invariant-loop-copy : goal.invariant-loop-copy
invariant-loop-copy l = l.at ≤ 16384
