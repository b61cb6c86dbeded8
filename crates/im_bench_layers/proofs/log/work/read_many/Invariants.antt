use Rattle.std.specs.Prelude.{◌≡◌, length}
use Rattle.im_log.specs.LogFile.{IsOpen}
use Rattle.im_bench_layers.proofs.log.work.read_many.Given as goal

abbrev pub invariant-loop-step : goal.invariant-loop-step
invariant-loop-step g l = IsOpen g.D.Disk l.fn.log l.disk × (length l.room ≡ length l.fn.room)
