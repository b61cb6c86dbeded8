use Rattle.im_base_model_disk.specs.contracts.model_disk.ModelDiskDisk.TheImpl.{ghosts}
use Rattle.im_tool_drill.proofs.NamedDisk.{named_ghosts}
use Rattle.im_tool_every.specs.Counted.{AreCalls}
use Rattle.im_tool_every.specs.Swept.{AreRestartsAt}
use Rattle.im_tool_every.proofs.every.restart_calls.Given as goal

-- so many calls are done
abbrev pub invariant-loop-i : goal.invariant-loop-i
invariant-loop-i g l = AreCalls (AreRestartsAt ghosts named_ghosts l.options l.asked l.stops l.left) l.i l.fn.counts l.counts
