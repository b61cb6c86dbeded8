use Rattle.im_log.specs.LogFile.{IsOpen}
use Rattle.im_bench_layers.proofs.log.work.append_many.Given as goal

abbrev pub invariant-loop-number : goal.invariant-loop-number
invariant-loop-number g l = IsOpen g.D.Disk l.log l.disk
