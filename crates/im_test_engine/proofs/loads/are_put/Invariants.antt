use Rattle.std.proofs.Common.{◌≡◌, false}
use Rattle.im_test_engine.proofs.loads.are_put.Given as goal

abbrev pub invariant-loop-number : goal.invariant-loop-number
invariant-loop-number g l = record { working : g.D.Disk.failed l.disk ≡ false }
