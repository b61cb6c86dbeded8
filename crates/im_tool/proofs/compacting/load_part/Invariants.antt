use Rattle.std.proofs.Common.{◌≡◌, false}
use Rattle.im_tool.proofs.compacting.load_part.Given as goal

abbrev pub invariant-loop-key : goal.invariant-loop-key
invariant-loop-key g l = g.T.Disk.failed l.to ≡ false
