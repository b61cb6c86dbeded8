use Rattle.im_log.specs.LogFile.{IsOpen}
use Rattle.im_bench_layers.proofs.log.work.force_many.Given as goal

abbrev pub invariant-loop-record : goal.invariant-loop-record
invariant-loop-record g l = IsOpen g.D.Disk l.log l.disk
