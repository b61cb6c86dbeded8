use Rattle.std.proofs.Common.{take}
use Rattle.im_base_model_disk.specs.contracts.model_disk.ModelDiskDisk.TheImpl.{ghosts}
use Rattle.im_tool_drill.proofs.NamedDisk.{named_ghosts}
use Rattle.im_tool_every.specs.Counted.{AreInTurn}
use Rattle.im_tool_every.specs.Swept.{IsRestart}
use Rattle.im_tool_every.proofs.every.stop_restart.Given as goal

-- so many ways are done
abbrev pub invariant-loop-way : goal.invariant-loop-way
invariant-loop-way g l = AreInTurn (λ way. IsRestart ghosts named_ghosts l.options l.asked l.left l.call way) (take l.way-index l.ways) l.fn.counts l.counts
