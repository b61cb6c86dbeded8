use Rattle.std.specs.Prelude.{◌≡◌, false}
use Rattle.im_bench_layers.proofs.log.work.put_by_hand.Given as goal

abbrev pub invariant-loop-put : goal.invariant-loop-put
invariant-loop-put g l = g.D.Disk.failed l.disk ≡ false
