use Rattle.std.proofs.Common.{◌≡◌, false}
use Rattle.im_bench_layers.proofs.pool.work.cached.Given as goal

abbrev pub invariant-loop-round : goal.invariant-loop-round
invariant-loop-round g l = g.D.Disk.failed l.disk ≡ false
