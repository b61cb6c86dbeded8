use Rattle.std.proofs.Common.{◌≡◌, false}
use Rattle.im_test_base.proofs.mirror.rest.Given as goal

abbrev pub invariant-loop : goal.invariant-loop
invariant-loop g l = record { working : l.disk.has_failed ≡ false }
