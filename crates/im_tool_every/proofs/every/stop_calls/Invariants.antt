use Rattle.im_base_model_disk.specs.contracts.model_disk.ModelDiskDisk.TheImpl.{ghosts}
use Rattle.im_tool_drill.proofs.NamedDisk.{named_ghosts}
use Rattle.im_tool_every.specs.Counted.{AreCalls}
use Rattle.im_tool_every.specs.Swept.{AreStopsAt, IsSameLife}
use Rattle.im_tool_every.proofs.every.stop_calls.Given as goal

-- so many calls are done
abbrev pub invariant-loop-i : goal.invariant-loop-i
invariant-loop-i g l = record {
  stops : AreCalls (AreStopsAt ghosts named_ghosts l.start l.fn.life.options l.fn.life.lines l.stops) l.i l.fn.counts l.counts;
  life : IsSameLife l.fn.life l.life;
}
