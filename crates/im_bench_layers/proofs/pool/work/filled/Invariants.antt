use Rattle.std.proofs.Common.{◌≡◌, false}
use Rattle.im_bench_layers.proofs.pool.work.filled.Given as goal

abbrev pub invariant-loop-p : goal.invariant-loop-p
invariant-loop-p g l = g.D.Disk.failed l.disk ≡ false
