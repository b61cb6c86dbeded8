use Rattle.std.proofs.Common.{◌≡◌, length, get_or, rules, arith}
use Rattle.std.proofs.lemmas.Grind.{common_steps}
use Rattle.im_tool_judge.proofs.Entries.{same_at}
use Rattle.im_tool_judge.proofs.sorted.Sorted.is.Goals as goal

pub loop-i-preserved : goal.loop-i-preserved
loop-i-preserved c =
    let es = c.args.self.now.entries.items in
    let found = c.args.found.now in
    let long : length es ≡ length found = grind (arith, common_steps) in
    let same : c.index-found-i.result ≡ (c.index.result.now.0.items, c.index.result.now.1) = search rules in
    let is : c.index.result.now ≡ get_or es c.loop-i.i c.index.result.now = search rules in
    let at : c.index-found-i.result ≡ get_or found c.loop-i.i c.index-found-i.result = c.index-found-i.is in
    same_at found es c.loop-i.i c.index-found-i.result c.index.result.now c.loop-i-test.true long c.loop-i.invariant at is same
