use Rattle.std.proofs.Common.{map, take}
use Rattle.im_base_types.specs.Lives.{NoneAcked}
use Rattle.im_tool_judge.specs.Judged.{asked_effect}
use Rattle.im_tool_judge.proofs.judge.none_acked.Given as goal

-- none so far was acknowledged
abbrev pub invariant-loop-effect : goal.invariant-loop-effect
invariant-loop-effect l = NoneAcked (map asked_effect (take l.effect-index l.asked))
