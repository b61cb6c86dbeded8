use Rattle.std.proofs.Common.{take}
use Rattle.im_base_model_disk.specs.contracts.model_disk.ModelDiskDisk.TheImpl.{ghosts}
use Rattle.im_tool_drill.proofs.NamedDisk.{named_ghosts}
use Rattle.im_tool_every.specs.Counted.{AreInTurn}
use Rattle.im_tool_every.specs.Failing.{failing, IsFailure, IsSetTo}
use Rattle.im_tool_every.proofs.failing.each_end.Given as goal

-- so many ways are done
abbrev pub invariant-loop-way : goal.invariant-loop-way
invariant-loop-way g l = record {
  failures : AreInTurn (λ way. IsFailure ghosts named_ghosts l.start (failing l.fn.life.options l.fn.call l.fn.read) l.fn.life.lines l.plain way) (take l.way-index l.ways) l.fn.counts l.counts;
  life : IsSetTo l.fn.call l.fn.read l.fn.life l.life;
}
