use Rattle.im_base_model_disk.specs.contracts.model_disk.ModelDiskDisk.TheImpl.{ghosts}
use Rattle.im_tool_drill.proofs.NamedDisk.{named_ghosts}
use Rattle.im_tool_every.specs.Counted.{AreCalls}
use Rattle.im_tool_every.specs.Failing.{AreCallFailures, IsLikeLife}
use Rattle.im_tool_every.proofs.failing.fail_calls.Given as goal

-- so many are done
abbrev pub invariant-loop-i : goal.invariant-loop-i
invariant-loop-i g l = record {
  calls : AreCalls (AreCallFailures ghosts named_ghosts l.start l.fn.life.options l.fn.life.lines l.plain) l.i l.fn.counts l.counts;
  life : IsLikeLife l.fn.life l.life;
}
