use Rattle.std.proofs.Common.{◌≡◌, false}
use Rattle.im_bench_layers.proofs.pool.work.missed.Given as goal

abbrev pub invariant-loop-i : goal.invariant-loop-i
invariant-loop-i g l = g.D.Disk.failed l.disk ≡ false
