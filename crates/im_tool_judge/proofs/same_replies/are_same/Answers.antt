use Rattle.std.proofs.Common.{◌≡◌, ◌<◌, length, rules, arith}
use Rattle.std.proofs.lemmas.Grind.{common_steps}
use Rattle.im_tool_judge.proofs.Replies.{same_next}
use Rattle.im_tool_judge.proofs.same_replies.are_same.Goals as goal

pub loop-i-preserved : goal.loop-i-preserved
loop-i-preserved c =
    let some = c.args.some.now in
    let others = c.args.others.now in
    let within : c.loop-i.i < length others = grind (arith, common_steps) in
    let same : c.index-some-i.result ≡ c.index-others-i.result = search rules in
    same_next some others c.loop-i.i c.index-some-i.result c.index-others-i.result c.loop-i-test.true within c.index-some-i.is c.index-others-i.is same c.loop-i.invariant
