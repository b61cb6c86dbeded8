use Rattle.std.proofs.Common.{inl, inr}
use Rattle.im_tool_judge.proofs.Shows.{rolled_back}
use Rattle.im_tool_judge.proofs.showing.Showing.roll_back.Goals as goal

pub returns-in_ok-happen-in-Rollback : goal.returns-in_ok-happen-in-Rollback
returns-in_ok-happen-in-Rollback c s shown = rolled_back c.args.step.now _ _ s (inl c.in-Rollback.is) (c.in_ok-happen-in-Rollback.ensures s shown)

pub returns-in_ok-happen-in-Continue : goal.returns-in_ok-happen-in-Continue
returns-in_ok-happen-in-Continue c s shown = rolled_back c.args.step.now _ _ s (inr c.in-Continue.is) (c.in_ok-happen-in-Continue.ensures s shown)
