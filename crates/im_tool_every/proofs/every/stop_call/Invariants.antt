use Rattle.std.proofs.Common.{take}
use Rattle.im_base_model_disk.specs.contracts.model_disk.ModelDiskDisk.TheImpl.{ghosts}
use Rattle.im_tool_drill.proofs.NamedDisk.{named_ghosts}
use Rattle.im_tool_every.specs.Counted.{AreInTurn}
use Rattle.im_tool_every.specs.Swept.{IsLifeStopped, IsSameLife}
use Rattle.im_tool_every.proofs.every.stop_call.Given as goal

-- so many ways are done
abbrev pub invariant-loop-way : goal.invariant-loop-way
invariant-loop-way g l = record {
  stops : AreInTurn (λ way. IsLifeStopped ghosts named_ghosts l.start l.fn.life.options l.fn.life.lines l.stops l.call way) (take l.way-index l.ways) l.fn.counts l.counts;
  life : IsSameLife l.fn.life l.life;
}
