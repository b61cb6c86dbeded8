use Rattle.im_tool_judge.proofs.Fronts.{none_more, some_acked}
use Rattle.std.proofs.Common.{◌≡◌, false, arith}
use Rattle.std.proofs.lemmas.Grind.{common_steps}
use Rattle.im_tool_judge.proofs.judge.none_acked.Goals as goal

pub returns-then-effect : goal.returns-then-effect
returns-then-effect c = (λ no. absurd (cc), λ none. absurd (some_acked c.args.asked.now c.loop-effect.effect-index c.effect-item.result c.loop-effect-test.true c.effect-item.is c.if-effect.true none))

pub loop-effect-preserved : goal.loop-effect-preserved
loop-effect-preserved c =
    let not_acked : c.effect-item.result.acked ≡ false = grind (arith, common_steps) in
    none_more c.args.asked.now c.loop-effect.effect-index c.effect-item.result c.loop-effect-test.true c.effect-item.is not_acked c.loop-effect.invariant
