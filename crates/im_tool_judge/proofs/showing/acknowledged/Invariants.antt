use Rattle.std.proofs.Common.{◌≡◌}
use Rattle.im_base_types.specs.Lives.{all_acked}
use Rattle.im_tool_judge.specs.Judged.{asked_in}
use Rattle.im_tool_judge.proofs.showing.acknowledged.Given as goal

-- those so far, each acknowledged
abbrev pub invariant-loop-effect : goal.invariant-loop-effect
invariant-loop-effect l = asked_in l.all.items ≡ all_acked (asked_in l.yielded)
