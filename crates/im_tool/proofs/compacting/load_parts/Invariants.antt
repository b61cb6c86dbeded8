use Rattle.std.proofs.Common.{◌≡◌, false}
use Rattle.im_tool.proofs.compacting.load_parts.Given as goal

abbrev pub invariant-loop-parts : goal.invariant-loop-parts
invariant-loop-parts g l = g.T.Disk.failed l.to ≡ false
