use Rattle.im_log.specs.LogFile.{IsOpen}
use Rattle.im_bench_layers.proofs.log.timing.append_nanos.Given as goal

abbrev pub invariant-loop-batch : goal.invariant-loop-batch
invariant-loop-batch g l = IsOpen g.D.Disk l.log l.disk
