use Rattle.std.proofs.Common.{subst}
use Rattle.im_base_model_disk.specs.contracts.model_disk.ModelDiskDisk.TheImpl.{ghosts}
use Rattle.im_tool_drill.proofs.NamedDisk.{named_ghosts}
use Rattle.im_tool_every.specs.declared.every.Counts.{Counts}
use Rattle.im_tool_every.specs.Counted.{IsJudgedIn}
use Rattle.im_tool_every.proofs.every.one_restart.Goals as goal

pub returns : goal.returns
returns g c = record {
  next = c.in_ok-next.next;
  stopped = c.in_ok-next.ensures;
  calls = c.in_ok-_calls._calls;
  judged = subst (λ (x : Counts). IsJudgedIn ghosts named_ghosts c.args.options c.args.asked.now c.in_ok-next.next c.in_ok-_calls._calls x c.judge.new.counts) c.count_restart.ensures c.in_ok-_calls.ensures;
}
