use Rattle.im_tool_judge.proofs.Shows.{had_none, resumes}
use Rattle.im_tool_judge.proofs.showing.Showing.finish.Goals as goal

pub returns-in_ok-happen-in-RollTo : goal.returns-in_ok-happen-in-RollTo
returns-in_ok-happen-in-RollTo c s shown = had_none c.args.step.now _ _ _ s c.in-RollTo.is (c.in_ok-happen-in-RollTo.ensures s shown)

pub returns-in_ok-happen-in-Continue : goal.returns-in_ok-happen-in-Continue
returns-in_ok-happen-in-Continue c s shown = resumes c.args.step.now _ _ s c.in-Continue.is (c.in_ok-happen-in-Continue.ensures s shown)
